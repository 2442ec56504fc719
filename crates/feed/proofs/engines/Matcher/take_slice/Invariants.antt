-- `feed::Matcher::take_slice` meets its contract. The loop's invariant is `Left`, that the run of the bytes that are
-- left is the run of all, and that no frame ended. The measure is how many are left. Assumes nothing.
use mathlib.Core.Path.{◌≡◌}
use Prim.Native.Nat.{◌-◌}
use lib.ListN.{length}
use Rattle.std.specs.Prelude.{None}
use Rattle.stream.specs.Length.{link_limit}
use Rattle.step.specs.Slice.{run_of}
use Rattle.step.proofs.Runs.{Left}
use Rattle.feed.proofs.engines.Matcher.take_slice.Given as goal

abbrev pub invariant-loop-i : goal.invariant-loop-i
invariant-loop-i g l =
    let whole = run_of link_limit l.initial.at l.initial.counted l.initial.buf l.bytes in
    Left link_limit whole l.at l.counted l.buf l.bytes l.i × (l.ended ≡ None)

abbrev pub decreases-loop-i : goal.decreases-loop-i
decreases-loop-i g l = length l.bytes - l.i
