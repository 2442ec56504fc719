-- The fields of an argument. docs/REPLAY.md: "Numbers in an argument are little-endian, and a truth value above 1
-- counts as 1."
--   field_at n s i   the number in the n bytes of s from place i on; 0 if s does not have them all
--   flag_at s i      the truth value at place i
use Rattle.std.specs.Prelude.{List, Bool, ℕ, ltb}
use Rattle.std.specs.Option.{unwrap_or}
use Rattle.wire.specs.Number.{number_at}

unfoldable pub field_at : ℕ → List ℕ → ℕ → ℕ
field_at n s i = unwrap_or (number_at n s i) 0

abbrev pub flag_at : List ℕ → ℕ → Bool
flag_at s i = ltb 0 (field_at 1 s i)
