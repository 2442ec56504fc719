-- What a state of the second table stands for: the matching states 0 to 15, the whole headers 16 and 20, the whole
-- tails 24 and 28.
--   in_state s n        the scan in the state s of a frame with n data bytes
--   ended_in s n        the frame that ends in the state s, if one does
--   given_up st t       the counters after t bytes of a frame are given up: none is no broken start
--   counted_in st t s   the counters in the state s, after t bytes of a frame and one more
--   step_to t n st s    the step that leads to the state s, after t bytes of a frame with n data bytes
use Rattle.std.specs.Prelude.{cond, ℕ, ◌%◌, eqb, ltb, None}
use Rattle.std.specs.declared.option.Option.{Option}
use Rattle.wire.specs.declared.Kind.TheVariants.{Report, Command}
use Rattle.scan.specs.Scan.{at, hunting}
use Rattle.scan.specs.Start.{frame_ended, abandoned, dropping}
use Rattle.scan.specs.declared.State.TheVariants.{Header, Len, Tail}
use Rattle.scan.specs.declared.Scan.{Scan}
use Rattle.scan.specs.declared.stats.Stats.{Stats}
use Rattle.scan.specs.declared.stats.Ended.{Ended}
use Rattle.scan.specs.declared.stats.Stepped.{Stepped}

abbrev pub in_state : ℕ → ℕ → Scan
in_state s n = cond (ltb s 4) (at Header Report (s % 4) 0 0) (cond (ltb s 8) (at Header Command (s % 4) 0 0)
    (cond (ltb s 12) (at Tail Report (s % 4) n n) (cond (ltb s 16) (at Tail Command (s % 4) n n)
    (cond (eqb s 16) (at Len Report 0 0 0) (cond (eqb s 20) (at Len Command 0 0 0) hunting)))))

abbrev pub ended_in : ℕ → ℕ → Option Ended
ended_in s n = cond (eqb s 24) (frame_ended Report n) (cond (eqb s 28) (frame_ended Command n) None)

abbrev pub given_up : Stats → ℕ → Stats
given_up st t = cond (eqb t 0) st (abandoned st t)

-- a stray byte in the state 0, the first of a header in 1 and 5; in any other the byte was matched
abbrev pub counted_in : Stats → ℕ → ℕ → Stats
counted_in st t s = cond (eqb s 0) (dropping (given_up st t) 1) (cond (eqb s 1) (given_up st t)
    (cond (eqb s 5) (given_up st t) st))

abbrev pub step_to : ℕ → ℕ → Stats → ℕ → Stepped
step_to t n st s = record { scan = in_state s n; stats = counted_in st t s; ended = ended_in s n }
