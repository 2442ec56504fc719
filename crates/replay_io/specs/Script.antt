-- docs/REPLAY.md: "SCRIPT: a row of calls on one parser, which is handed on from call to call."
--   call_length s   the length of the first call of the script s, by the table; 0 if no line has its number
--   call_size s     the same, but 0 too for a call that the script cuts short
--   Meaning         what a call does: it feeds a byte, feeds bytes as one slice, or resets
--   first_call s    what the first call of the script s does, if it has one
--   meaning c       what the call c does
--   NextCall s r t  the script s gives r, its first call if it has one, and t is what is left of it
use Rattle.std.specs.Prelude.{◌≡◌, List, cond, ℕ, ◌+◌, ◌<◌, eqb, ltb, length, take, drop, MatchOption}
use Rattle.std.specs.declared.option.Option.{Option}
use Rattle.replay_io.specs.Argument.{field_at}
use Rattle.replay_io.specs.declared.script.Call.{Call}
use Rattle.replay_io.specs.declared.script.Call.TheVariants.{Byte, Slice, Reset}

-- "0, a byte"; "1, a length (2), that many bytes"; "2"
unfoldable pub call_length : List ℕ → ℕ
call_length s =
    cond (eqb (field_at 1 s 0) 0) 2
    (cond (eqb (field_at 1 s 0) 1) (3 + field_at 2 s 1)
    (cond (eqb (field_at 1 s 0) 2) 1 0))

unfoldable pub call_size : List ℕ → ℕ
call_size s = cond (ltb (length s) (call_length s)) 0 (call_length s)

pub data Meaning : Type 0 where
  feeds : ℕ → Meaning
  feeds_slice : List ℕ → Meaning
  resets : Meaning

-- "feeds the byte"; "feeds these bytes as one slice"; "resets"
unfoldable pub first_call : List ℕ → Meaning
first_call s =
    cond (eqb (field_at 1 s 0) 0) (feeds (field_at 1 s 1))
    (cond (eqb (field_at 1 s 0) 1) (feeds_slice (take (field_at 2 s 1) (drop 3 s))) resets)

abbrev pub meaning : Call → Meaning
meaning (Byte b) = feeds b
meaning (Slice s) = feeds_slice s.now
meaning Reset = resets

abbrev pub NextCall : List ℕ → Option Call → List ℕ → Type 0
NextCall s r t =
    MatchOption r ((call_size s ≡ 0) × (t ≡ s))
    (λ c. (0 < call_size s) × (meaning c ≡ first_call s) × (t ≡ drop (call_size s) s))
