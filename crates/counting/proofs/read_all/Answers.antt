-- `counting::read_all` meets its contract.
use Rattle.counting.proofs.Reached.{reached_start, reached_on, turned_reached}
use Rattle.counting.proofs.Line.{line_of}
use Rattle.counting.proofs.read_all.Goals as goal

pub loop-init : goal.loop-init
loop-init g c = (reached_start c.new-at.ensures.made, rw (← c.new-at.ensures.made) c.new-at.ensures.fulfilled)

pub loop-preserved : goal.loop-preserved
loop-preserved g c =
    let held = c.loop.invariant in
    (reached_on _ _ _ held.0 (turned_reached _ _ c.read_some-turn.ensures.turned), held.1)

-- After a turn: what it leaves is reached from a fresh parser, since what the loop held was.
pub returns-then-not-turn : goal.returns-then-not-turn
returns-then-not-turn g c =
    let held = c.loop.invariant in
    let reached = reached_on _ _ _ held.0 (turned_reached _ _ c.read_some-turn.ensures.turned) in
    record { reached = reached; line = line_of held.1 _ reached }

pub returns-after-loop : goal.returns-after-loop
returns-after-loop g c =
    let held = c.loop.invariant in
    record { reached = held.0; line = line_of held.1 _ held.0 }
