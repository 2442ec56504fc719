-- The reader's answer to report data, by the checks R1 to R8.
--   checked_report s         the reader's answer to the data s: the first check that fails, or the report
--   completed_report f t b   the answer by R6 to R8 alone, for basic fields f, the type t and the bytes b after the nine
--   parsed_report s          the reader's answer to the data s, with the refusal in place of the check
--   returned_report r        what the answer r returns: the number and the report
use Rattle.std.specs.Prelude.{List, ℕ, None}
use Rattle.std.specs.declared.result.Result.{Result}
use Rattle.refusal.specs.Refusal.{Returned, or_error, returned}
use Rattle.refusal.specs.Check.{or_failed, checked_by, told_by}
use Rattle.refusal.specs.declared.Error.{Error}
use Rattle.refusal.specs.declared.Check.{Check}
use Rattle.refusal.specs.declared.Check.TheVariants.{R6, R7, R8}
use Rattle.report.specs.declared.basic.Basic.{Basic}
use Rattle.report.specs.LayoutCheck.{known_type, nothing_after, block_fits, report_checks}
use Rattle.report.specs.Report.{report_by, report_of, no_report}
use Rattle.report.specs.declared.Report.{Report}

unfoldable pub checked_report : List ℕ → Result Report Check
checked_report s = checked_by report_checks s (report_of s)

unfoldable pub completed_report : Basic → ℕ → List ℕ → Result Report Check
completed_report f t b =
    or_error
    (or_failed (known_type t) R6 (or_failed (nothing_after t b) R7 (or_failed (block_fits t b) R8 None)))
    (report_by f t b)

unfoldable pub parsed_report : List ℕ → Result Report Error
parsed_report s = told_by (checked_report s)

abbrev pub returned_report : Result Report Error → Returned Report
returned_report = returned no_report
