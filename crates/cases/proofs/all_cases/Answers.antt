-- `cases::all_cases` meets its contract: cited from Rows. Assumes nothing.
use Rattle.cases.proofs.Rows.{all_hold}
use Rattle.cases.proofs.all_cases.Goals as goal

pub returns : goal.returns
returns c = record { hold = all_hold }
