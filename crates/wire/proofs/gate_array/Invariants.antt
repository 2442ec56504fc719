-- `wire::gate_array`: the first `gate` bytes of `src` are copied over the zeros. Assumes nothing.
use mathlib.Core.Path.{◌≡◌}
use lib.ListN.{replicate}
use Rattle.wire.specs.Prefix.{over}
use Rattle.wire.proofs.gate_array.Given as goal

abbrev pub invariant-loop-gate : goal.invariant-loop-gate
invariant-loop-gate l = l.bytes ≡ over (replicate 9 0) 0 l.src l.gate
