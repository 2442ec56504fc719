-- The run of a slice of one byte is its step.
use mathlib.Core.Path.{◌≡◌, refl}
use mathlib.Core.List.{List, [], ◌∷◌}
use Prim.Native.Nat.{ℕ}
use Rattle.std.specs.Prelude.{Some, None}
use Rattle.std.specs.declared.option.Option.{Option}
use Rattle.step.specs.Step.{step_of, stored}
use Rattle.step.specs.Slice.{Run, run_at, then_run, run_of}
use Rattle.scan.specs.declared.Scan.{Scan}
use Rattle.scan.specs.declared.stats.Stats.{Stats}
use Rattle.scan.specs.declared.stats.Ended.{Ended}
use Rattle.scan.specs.declared.stats.Stepped.{Stepped}

-- The step that a run of one byte was.
abbrev pub step_in : Run → Stepped
step_in r = record { scan = r.scanned.scan; stats = r.scanned.stats; ended = r.scanned.ended }

pub record Single (r : Stepped) (d : List ℕ) (run : Run) : Type 0 where
  pub step : step_in run ≡ r
  pub left : run.buf ≡ d

then_single : (x : Option Ended) (r : Stepped) (d : List ℕ) → r.ended ≡ x
    → Single r d (then_run x r d (run_at r.scan r.stats None 0 d))
then_single (Some x) r d e = record { step = refl; left = refl }
then_single None r d e = record { step = rw e; left = refl }

pub single : (limit : ℕ) (c : Scan) (st : Stats) (buf : List ℕ) (b : ℕ)
    → Single (step_of limit c st b) (stored c buf b) (run_of limit c st buf (b ∷ []))
unfolding run_of
single limit c st buf b = then_single (step_of limit c st b).ended (step_of limit c st b) (stored c buf b) refl
