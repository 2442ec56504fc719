-- `replay_io::answers::answer_all` meets its contract.
use mathlib.Core.Path.{sym, ◌∙◌}
use borrow.Author.Rules.{rules}
use Rattle.replay_io.proofs.Runs.{call_answers, all_spent, ended_now, one_more}
use Rattle.replay_io.proofs.answers.answer_all.Goals as goal

pub returns-then-not-is_case : goal.returns-then-not-is_case
returns-then-not-is_case g c =
    let test = sym c.is_case.ensures.tested ∙ c.if-not-is_case.true in
    let last = ended_now _ _ c.loop-turn.turn _ _ _ _ _ c.loop-turn-test.true c.next_case-case.ensures.found test in
    record { answered = rw c.finish.ensures.put (c.loop-turn.invariant.1 _ last) }

pub loop-turn-preserved : goal.loop-turn-preserved
loop-turn-preserved g c =
    let test = sym c.is_case.ensures.tested ∙ c.if-not-is_case.false in
    let more = one_more _ _ c.loop-turn.turn _ _ _ _ _ c.loop-turn-test.true c.next_case-case.ensures.found test in
    let call = call_answers _ _ _ _ _ _ c.answer.ensures in
    (search rules, λ o rest. c.loop-turn.invariant.1 o (more _ o call rest))

pub returns : goal.returns
returns g c = record {
  answered = c.loop-turn.invariant.1 _ (all_spent _ _ c.loop-turn.turn _ _ _ c.loop-turn-test.false);
}
