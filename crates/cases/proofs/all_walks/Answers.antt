-- `cases::all_walks` meets its contract: cited from Requests. Assumes nothing.
use Rattle.cases.proofs.Requests.{all_walk}
use Rattle.cases.proofs.all_walks.Goals as goal

pub returns : goal.returns
returns c = record { hold = all_walk }
