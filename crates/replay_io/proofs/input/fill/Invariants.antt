-- `replay_io::input::fill` meets its contract. The loop's invariant: the bytes that are kept are at the front. The
-- measure is how much of the buffer is free.
use mathlib.Core.Path.{◌≡◌}
use Prim.Native.Nat.{◌-◌}
use lib.ListN.{length}
use Rattle.replay_io.specs.Case.{Grown}
use Rattle.replay_io.proofs.input.fill.Given as goal

abbrev pub invariant-loop-read : goal.invariant-loop-read
invariant-loop-read g l = (length l.input ≡ length l.initial.input) × Grown l.initial.input l.kept l.input l.read

abbrev pub decreases-loop-read : goal.decreases-loop-read
decreases-loop-read g l = length l.initial.input - l.read
