-- `report_writer::write_report` meets its contract: the data are encoded in an array, and their frame is written.
-- Assumes nothing.
use mathlib.Core.Path.{◌≡◌, refl, sym, ◌∙◌}
use mathlib.Core.Bool.{true}
use Prim.Native.Nat.{◌≤◌}
use native.Mathlib.Omega.{arith}
use lib.ListN.{length}
use Rattle.wire.specs.declared.Kind.TheVariants.{Report}
use Rattle.writer.proofs.RoundTrip.{round_refused, round_framed}
use Rattle.report_writer.specs.Data.{report_data}
use Rattle.report_writer.specs.Writable.{writable}
use Rattle.report_writer.proofs.Counts.{writable_sound}
use Rattle.report_writer.proofs.Typed.{TypedReport, report_typed}
use Rattle.report_writer.proofs.ReportData.{data_short}
use Rattle.report_writer.proofs.RoundTrip.{agreed}
use Rattle.report_writer.proofs.write_report.Goals as goal

pub returns-then-not-is_writable : goal.returns-then-not-is_writable
returns-then-not-is_writable c =
    let bad = sym c.is_writable.ensures.tested ∙ c.if-not-is_writable.true in
    round_refused (agreed _ (report_typed c.args.report _ c.well_formed.1.0)) _ bad

pub returns : goal.returns
returns c =
    let r = c.args.report in
    let typed : TypedReport r = report_typed r _ c.well_formed.1.0 in
    let good : writable r ≡ true = sym c.is_writable.ensures.tested ∙ c.if-not-is_writable.false in
    let short : length (report_data r) ≤ 41 = data_short r typed (writable_sound r good) in
    round_framed (agreed r typed) Report _ _ _ _ refl (omega arith) good c.encode_data-len.ensures.left
    c.put_frame.ensures
