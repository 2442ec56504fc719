-- `report::Report::parse` meets its contract: it tells the answer of `checked_report` as a refusal. Assumes nothing.
use borrow.Author.Rules.{rules}
use Rattle.report.specs.Check.{parsed_report}
use Rattle.report.proofs.ReportChecked.{parsed_whole}
use Rattle.report.proofs.Report.parse.Goals as goal

pub returns-in_err-checked_report : goal.returns-in_err-checked_report
unfolding parsed_report
returns-in_err-checked_report c = parsed_whole _ (search rules)

pub returns : goal.returns
unfolding parsed_report
returns c = parsed_whole _ (search rules)
