-- `load_writer::fill` meets its contract. The loop's invariant: the pieces so far are put, and the rest of the load is
-- still to come. The measure is the room that is left, since every piece has a byte. Assumes nothing.
use Rattle.std.proofs.Common.{length, ◌-◌}
use Rattle.load_writer.proofs.Filling.{Filling}
use Rattle.load_writer.proofs.fill.Given as goal

abbrev pub invariant-loop-end : goal.invariant-loop-end
invariant-loop-end l = Filling l.seed l.initial.out l.draws l.at l.out

abbrev pub decreases-loop-end : goal.decreases-loop-end
decreases-loop-end l = length l.initial.out - l.at
