-- `feed::parts::take_part` meets its contract. The loop's invariant is `Within`: the state is that in which the loop
-- began, and the run from here is the run from the start. The measure is how many bytes are left. Assumes nothing.
use Prim.Native.Nat.{◌-◌}
use lib.ListN.{length}
use Rattle.stream.specs.Length.{link_limit}
use Rattle.feed.proofs.Phases.{Within}
use Rattle.feed.proofs.run.parts.take_part.Given as goal

abbrev pub invariant-loop-at : goal.invariant-loop-at
invariant-loop-at l = Within link_limit l.initial.at l.initial.counted l.bytes l.initial.i l.at l.counted l.i

abbrev pub decreases-loop-at : goal.decreases-loop-at
decreases-loop-at l = length l.bytes - l.i
