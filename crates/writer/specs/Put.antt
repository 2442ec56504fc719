-- Bytes put at a place of a buffer: all of them or none.
--   has_room out at b   whether the bytes b fit into the buffer out from place at on
--   placed out at b    the answer: the place after them, or that they do not fit
--   put_in out at b     the buffer afterwards: b over its bytes from place at on, or unchanged
use Rattle.std.specs.Prelude.{List, Bool, cond, ℕ, ◌+◌, leb, length, Some, None}
use Rattle.std.specs.declared.option.Option.{Option}
use Rattle.wire.specs.Prefix.{over}

abbrev pub has_room : List ℕ → ℕ → List ℕ → Bool
has_room out at b = leb (at + length b) (length out)

unfoldable pub placed : List ℕ → ℕ → List ℕ → Option ℕ
placed out at b = cond (has_room out at b) (Some (at + length b)) None

unfoldable pub put_in : List ℕ → ℕ → List ℕ → List ℕ
put_in out at b = cond (has_room out at b) (over out at b (length b)) out
