-- `replay_io::answers::answer_all` meets its contract. The loop's invariant: the answers to the cases that are left,
-- after those so far, are the answers to all.
use mathlib.Core.Path.{◌≡◌}
use Prim.Native.Nat.{◌-◌}
use lib.ListN.{length}
use Rattle.replay_io.specs.Answers.{Answered, CallAnswers}
use Rattle.replay_io.specs.Case.{nothing_read}
use Rattle.replay_io.specs.Line.{Gathered}
use Rattle.replay_io.proofs.answers.answer_all.Given as goal

abbrev pub invariant-loop-turn : goal.invariant-loop-turn
invariant-loop-turn g l =
    (length l.input ≡ length l.fn.input)
    × ((o : Gathered)
    → Answered (CallAnswers g.F.Fn l.answer) (18446744073709551615 - l.turn) l.input l.case l.out o
    → Answered (CallAnswers g.F.Fn l.fn.answer) 18446744073709551615 l.fn.input nothing_read l.fn.out o)
