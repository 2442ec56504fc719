-- `session::Session::awaited` meets its contract. Assumes nothing.
use Rattle.std.proofs.Common.{rules}
use Rattle.session.proofs.Caused.{called_ask}
use Rattle.session.proofs.Session.awaited.Goals as goal

pub returns-in-Closed-clause-called : goal.returns-in-Closed-clause-called
returns-in-Closed-clause-called c = called_ask _ _ (search rules)

pub returns-in-Opening-clause-called : goal.returns-in-Opening-clause-called
returns-in-Opening-clause-called c = called_ask _ _ (search rules)

pub returns-in-Waiting-clause-called : goal.returns-in-Waiting-clause-called
returns-in-Waiting-clause-called c = called_ask _ _ (search rules)

pub returns-in-Closing-clause-called : goal.returns-in-Closing-clause-called
returns-in-Closing-clause-called c = called_ask _ _ (search rules)
