-- `feed::parts::take_part` meets its contract. The loop's invariant is `Within`: the state is that in which the loop
-- began, and the run from here is the run from the start. The measure is how many bytes are left. Assumes nothing.
use mathlib.Core.Path.{◌∙◌}
use Prim.Native.Nat.{◌<◌}
use native.Mathlib.Omega.{arith}
use lib.ListN.{get_or}
use Rattle.stream.specs.Length.{link_limit}
use Rattle.scan.specs.declared.State.TheVariants.{Header, Len, Tail}
use Rattle.feed.proofs.Phases.{Turn, turn_in, turn_ends, turn_on}
use Rattle.feed.proofs.run.parts.take_part.Goals as goal
use Rattle.feed.proofs.run.parts.take_part.Goals.{Joined-state, in-Header, in-Len, in-Data, in-Tail}

-- The loop's turn, after the step of its byte.
turn : (c : Joined-state) → Turn link_limit c.args.scan c.args.stats c.args.bytes.now c.args.from c.loop-at.at
    c.loop-at.counted c.loop-at.i c.match-state.stepped
turn c =
    let l = c.loop-at.invariant in
    let byte : get_or c.args.bytes.now c.loop-at.i 0 < 256 = omega (arith, c.type_inv.bytes c.loop-at.i) in
    elim c.match-state.branch [
      | in-Header w ↦ turn_in Header l w.in-Header.is (w.stepped-is ∙ w.header-stepped.ensures.stepped) byte
      | in-Len w ↦ turn_in Len l w.in-Len.is (w.stepped-is ∙ w.step_len-stepped.ensures.stepped) byte
      | in-Data w ↦ absurd (l.other w.in-Data.is)
      | in-Tail w ↦ turn_in Tail l w.in-Tail.is (w.stepped-is ∙ w.tail-stepped.ensures.stepped) byte
    ]

pub loop-at-preserved : goal.loop-at-preserved
loop-at-preserved c =
    let t = turn (goal.at.loop-at-preserved c).Joined-state in
    let inside = t.within.here.inside in
    turn_on t (c.stays.ensures.same c.if-not-stays.false) (omega arith)

pub returns : goal.returns
returns c = record { partial = rw c.taking.ensures.scanned (turn_ends (turn (goal.at.returns c).Joined-state)) }
