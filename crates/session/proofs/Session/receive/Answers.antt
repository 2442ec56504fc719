-- `session::Session::receive` meets its contract. Assumes nothing.
use Rattle.std.proofs.Common.{rules}
use Rattle.session.specs.Session.{receive_of}
use Rattle.session.proofs.Caused.{called_receive}
use Rattle.session.proofs.Session.receive.Goals as goal

pub returns-in-Some-Ack-clause-called : goal.returns-in-Some-Ack-clause-called
unfolding receive_of
returns-in-Some-Ack-clause-called g c = called_receive _ _ _ (search rules)

pub returns-in_default-clause-called : goal.returns-in_default-clause-called
unfolding receive_of
returns-in_default-clause-called g c = called_receive _ _ _ (search rules)

pub returns-in_default-2-clause-called : goal.returns-in_default-2-clause-called
unfolding receive_of
returns-in_default-2-clause-called g c = called_receive _ _ _ (search rules)

pub returns-in_default-3-clause-called : goal.returns-in_default-3-clause-called
unfolding receive_of
returns-in_default-3-clause-called g c = called_receive _ _ _ (search rules)
