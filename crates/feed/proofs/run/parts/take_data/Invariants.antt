-- `feed::parts::take_data` meets its contract. The loop's invariant: j of the data bytes that are due are copied.
-- Assumes nothing.
use mathlib.Core.Path.{◌≡◌}
use lib.ListN.{drop}
use lib.Seq.{paste}
use Rattle.feed.proofs.run.parts.take_data.Given as goal

abbrev pub invariant-loop-j : goal.invariant-loop-j
invariant-loop-j l = l.buf ≡ paste l.initial.buf l.pos (drop l.from l.bytes) l.j
