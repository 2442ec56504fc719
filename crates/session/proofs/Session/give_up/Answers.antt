-- `session::Session::give_up` meets its contract. Assumes nothing.
use Rattle.std.proofs.Common.{rules}
use Rattle.session.specs.Session.{give_up_of}
use Rattle.session.proofs.Caused.{called_give_up}
use Rattle.session.proofs.Session.give_up.Goals as goal

pub returns-then-is_busy-clause-called : goal.returns-then-is_busy-clause-called
unfolding give_up_of
returns-then-is_busy-clause-called c = called_give_up _ _ (search rules)

pub returns-clause-called : goal.returns-clause-called
unfolding give_up_of
returns-clause-called c = called_give_up _ _ (search rules)
