-- `session::Session::send` meets its contract, by the answer of `encode`. Assumes nothing.
use Rattle.std.proofs.Common.{rules}
use Rattle.session.specs.Session.{send_of}
use Rattle.session.proofs.SendTests.{sends}
use Rattle.session.proofs.Session.send.Goals as goal

pub returns-in-Ok : goal.returns-in-Ok
unfolding send_of
returns-in-Ok c = sends _ _ _ _ _ (search rules) c.encode-answer.ensures.left

pub returns-in-Err : goal.returns-in-Err
unfolding send_of
returns-in-Err c = sends _ _ _ _ _ (search rules) c.encode-answer.ensures.left
