-- `ld2450_parser::Progress::run` meets its contract. The loop's invariant is `Left`: the run of the remaining bytes has
-- the outcome of the run of all. Assumes nothing.
use native.Mathlib.Omega.{arith}
use Rattle.ld2450_parser.proofs.Runs.{left_start, left_end, left_frame, left_on}
use Rattle.ld2450_parser.proofs.steps.Progress.run.Goals as goal

pub loop-i-init : goal.loop-i-init
loop-i-init c = left_start _ _

pub loop-i-preserved : goal.loop-i-preserved
loop-i-preserved c =
    let s = c.step.ensures in
    left_on _ _ _ c.loop-i.invariant c.loop-i-test.true _ _ s.stepped.0 s.stored _ s.stepped.1 c.if-step.false

pub returns-then-step : goal.returns-then-step
returns-then-step c =
    let s = c.step.ensures in
    let inv = c.loop-i.invariant in
    record { ran = left_frame _ _ _ inv c.loop-i-test.true _ _ s.stepped.0 s.stored _ s.stepped.1 c.if-step.true }

pub returns : goal.returns
returns c = record { ran = left_end _ _ _ c.loop-i.invariant (omega arith) }
