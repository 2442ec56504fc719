-- `report::checked_report` meets its contract: the layout's checks fail, or those after it decide. Assumes nothing.
use mathlib.Core.Path.{◌≡◌, sym, ◌∙◌}
use mathlib.Core.List.{[], ◌∷◌}
use native.Mathlib.Omega.{arith}
use borrow.Author.Rules.{rules}
use Rattle.std.proofs.lemmas.Grind.{common_steps}
use Rattle.std.specs.Prelude.{Some}
use Rattle.refusal.specs.Check.{first_failed}
use Rattle.refusal.proofs.Checks.{failed_before, error_told}
use Rattle.refusal.specs.declared.Check.TheVariants.{R6, R7, R8}
use Rattle.report.specs.Report.{report_of}
use Rattle.report.specs.Check.{checked_report, completed_report}
use Rattle.report.specs.LayoutCheck.{r6, r7, r8, report_checks, layout_checks, checked_layout}
use Rattle.report.proofs.Layouts.{block_part}
use Rattle.report.proofs.checked_report.Goals as goal

pub returns-in_err-layout : goal.returns-in_err-layout
unfolding checked_report checked_layout
returns-in_err-layout c =
    let s = c.args.data.now in
    let later = (R6, r6) ∷ (R7, r7) ∷ (R8, r8) ∷ [] in
    let told = error_told (first_failed layout_checks s) _ (sym c.checked.ensures.checked ∙ c.in_err-layout.was) in
    let first : first_failed report_checks s ≡ Some c.in_err-layout.field-0.0 =
    failed_before s later layout_checks _ told in
    record { checked = rw first (search rules) }

pub returns : goal.returns
unfolding checked_report completed_report report_of checked_layout
returns c = record { checked = grind (arith, common_steps, block_part) }
