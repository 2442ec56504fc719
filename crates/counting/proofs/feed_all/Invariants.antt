-- `counting::feed_all` meets its contract. The loop's invariant is `Rest`: the remaining bytes, fed one by one from
-- here, leave what all of them leave. The measure is their number. The parser's type says what demand 3 asks of it. Assumes
-- nothing.
use lib.ListN.{length}
use Rattle.counting.proofs.Rest.{Rest}
use Rattle.counting.proofs.feed_all.Given as goal

abbrev pub invariant-loop-rest : goal.invariant-loop-rest
invariant-loop-rest l = Rest l.initial.fed l.initial.rest l.fed l.rest

abbrev pub decreases-loop-rest : goal.decreases-loop-rest
decreases-loop-rest l = length l.rest
