-- What a slice of bytes does: their steps, one after another, up to the first that ends a frame.
--   Run                       what was scanned, and the buffer afterwards
--   run_at c st e n buf        the run with these parts
--   one_more_taken r                 the run r, with one byte taken before it
--   then_run e r buf others    the run of the step r alone if it ended a frame, else with the run `others` after it
--   run_of limit c st buf bs   the run of the bytes bs from the scan c, the counters st and the buffer buf
use Rattle.std.specs.Prelude.{List, [], ◌∷◌, ℕ, suc, Some, None}
use Rattle.std.specs.declared.option.Option.{Option}
use Rattle.step.specs.Step.{step_of, stored}
use Rattle.scan.specs.declared.Scan.{Scan}
use Rattle.scan.specs.declared.stats.Stats.{Stats}
use Rattle.scan.specs.declared.stats.Ended.{Ended}
use Rattle.scan.specs.declared.stats.Stepped.{Stepped}
use Rattle.scan.specs.declared.stats.Scanned.{Scanned}

pub record Run : Type 0 where
  pub scanned : Scanned
  pub buf : List ℕ

abbrev pub run_at : Scan → Stats → Option Ended → ℕ → List ℕ → Run
run_at c st e n buf = record { scanned = record { scan = c; stats = st; ended = e; taken = n }; buf = buf }

abbrev pub one_more_taken : Run → Run
one_more_taken r = run_at r.scanned.scan r.scanned.stats r.scanned.ended (suc r.scanned.taken) r.buf

abbrev pub then_run : Option Ended → Stepped → List ℕ → Run → Run
then_run (Some x) r buf others = run_at r.scan r.stats r.ended 1 buf
then_run None r buf others = one_more_taken others

unfoldable pub run_of : ℕ → Scan → Stats → List ℕ → List ℕ → Run
run_of limit c st buf [] = run_at c st None 0 buf
run_of limit c st buf (b ∷ bs) = then_run (step_of limit c st b).ended (step_of limit c st b) (stored c buf b)
    (run_of limit (step_of limit c st b).scan (step_of limit c st b).stats (stored c buf b) bs)
