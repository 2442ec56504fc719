-- The clauses of the reader's contract, from its answer.
use mathlib.Core.Path.{◌≡◌, refl}
use mathlib.Core.List.{List}
use Prim.Native.Nat.{ℕ}
use Rattle.std.specs.Prelude.{Some, None}
use Rattle.std.specs.declared.option.Option.{Option}
use Rattle.std.specs.declared.result.Result.{Result}
use Rattle.refusal.specs.Refusal.{or_error}
use Rattle.refusal.specs.Check.{first_failed, told_by, Causes}
use Rattle.refusal.proofs.Checks.{causes}
use Rattle.refusal.specs.declared.Error.{Error}
use Rattle.refusal.specs.declared.Check.{Check}
use Rattle.target_state.proofs.States.{calibration}
use Rattle.report.specs.LayoutCheck.{report_checks}
use Rattle.report.specs.Layout.{state_in}
use Rattle.report.specs.Report.{report_of, no_report}
use Rattle.report.specs.Check.{checked_report, parsed_report, returned_report}
use Rattle.report.specs.Claims.{Calibrated}
use Rattle.report.specs.declared.Report.{Report}

-- If the state is one of calibration, the report has no target.
as_calibrated : (o : Option Check) (s : List ℕ)
    → Calibrated s (returned_report (told_by (or_error o (report_of s)))).value
unfolding report_of
as_calibrated (Some c) s h = (refl, (refl, refl))
as_calibrated None s h =
    let off = (calibration (state_in s)).untargeted h in
    rw (off.0, off.1) (refl, (refl, refl))

-- The clauses of the contract of `parse`.
abbrev pub ParsedWhole : List ℕ → Result Report Error → Type 0
ParsedWhole s r = record {
  parsed : r ≡ parsed_report s;
  causes : Causes no_report report_checks s (returned_report r);
  calibration : Calibrated s (returned_report r).value;
}

pub parsed_whole : (s : List ℕ) {r : Result Report Error} → r ≡ parsed_report s → ParsedWhole s r
unfolding parsed_report checked_report
parsed_whole s e = record {
  parsed = e;
  causes = rw e (causes report_checks s no_report (report_of s));
  calibration = rw e (as_calibrated (first_failed report_checks s) s);
}
