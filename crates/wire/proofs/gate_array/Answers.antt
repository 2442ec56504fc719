-- `wire::gate_array` meets its contract, by the laws of copies. Assumes nothing.
use mathlib.Core.Path.{◌∙◌}
use native.Mathlib.Omega.{arith}
use Rattle.wire.proofs.Prefixes.{over_nil, front_more, pasted_over, pasted_front, prefixed_zeros}
use Rattle.wire.proofs.gate_array.Goals as goal

pub loop-gate-init : goal.loop-gate-init
loop-gate-init c = over_nil _ _ _

pub loop-gate-preserved : goal.loop-gate-preserved
loop-gate-preserved c = rw c.loop-gate.invariant (front_more _ _ _ (omega arith) (omega arith))

pub returns : goal.returns
returns c = record { copied = c.loop-gate.invariant ∙ pasted_over _ _ _ c.loop-gate.gate (omega arith) ∙ pasted_front _ _ ∙ prefixed_zeros 9 _ }
