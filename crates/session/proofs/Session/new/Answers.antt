-- `session::Session::new` meets its contract. Assumes nothing.
use Rattle.session.specs.declared.Session.TheVariants.{Closed}
use Rattle.session.proofs.Moved.{any_run}
use Rattle.session.proofs.Exchanges.{opens_and_closes}
use Rattle.session.proofs.Session.new.Goals as goal

pub returns-clause-runs : goal.returns-clause-runs
returns-clause-runs c = any_run Closed

pub returns-clause-any : goal.returns-clause-any
returns-clause-any c = any_run

pub returns-clause-opens : goal.returns-clause-opens
returns-clause-opens c = opens_and_closes
