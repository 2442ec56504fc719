-- `recovery::frames::boundary` meets its contract: the frames that are left are those of the same bytes.
use Rattle.std.proofs.Common.{◌≡◌}
use Rattle.recovery.proofs.frames.boundary.Given as goal

abbrev pub invariant-loop-placed : goal.invariant-loop-placed
invariant-loop-placed l = l.placed-iterator.bytes.now ≡ l.bytes
