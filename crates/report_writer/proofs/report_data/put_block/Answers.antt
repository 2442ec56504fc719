-- `report_writer::put_block` meets its contract: the counts, the energies of each kind and the reserved bytes are put
-- one after the other. Assumes nothing.
use mathlib.Core.Path.{◌≡◌}
use mathlib.Core.List.{List}
use mathlib.Core.Bool.{true, false, not}
use native.Mathlib.Omega.{arith}
use borrow.Author.Tests.{not-true, not-false}
use mir.Val.{Val}
use denote.Laws.{Is}
use denote.Struct.Declared.{row}
use Rattle.engineering.specs.declared.Engineering.{Engineering}
use Rattle.report.specs.declared.Report.{Report}
use Rattle.report.specs.contracts.Report as R
use Rattle.writer.proofs.Chain.{put_nil}
use Rattle.report_writer.specs.Writable.{writable}
use Rattle.report_writer.proofs.Counts.{Within, within_sound}
use Rattle.report_writer.proofs.Typed.{TypedBlock, report_typed}
use Rattle.report_writer.proofs.ReportData.{block_put}
use Rattle.report_writer.proofs.report_data.put_block.Goals as goal

-- What is known of the block if the flag is on.
record Known (e : Engineering) : Type 0 where
  typed : TypedBlock e
  within : Within 1 9 8 e

known : (r : Report) {vs : List Val} → Is (row R.the_type) r vs → writable r ≡ true → not r.has_engineering ≡ false
    → Known r.engineering
known r t good on = record {
  typed = (report_typed r _ t).engineering;
  within = within_sound 1 9 8 r.engineering (rw (not-false r.has_engineering on) at good);
}

pub returns-then-not-report : goal.returns-then-not-report
returns-then-not-report c =
    let none = put_nil c.args.«data».now 11 (omega arith) in
    let off : c.args.report.has_engineering ≡ false = not-true _ c.if-not-report.true in
    rw off record { told = none.ends; left = none.holds }

pub overflow_sub-e : goal.overflow_sub-e
overflow_sub-e c = (known c.args.report c.well_formed.1.0 c.requires.good c.if-not-report.false).within.moving.least

pub overflow_sub-e-2 : goal.overflow_sub-e-2
overflow_sub-e-2 c =
    (known c.args.report c.well_formed.1.0 c.requires.good c.if-not-report.false).within.stationary.least

pub put_first-moving_end-requires : goal.put_first-moving_end-requires
put_first-moving_end-requires c =
    let k = known c.args.report c.well_formed.1.0 c.requires.good c.if-not-report.false in
    record { inside = omega arith; room = omega arith }

pub put_first-stationary_end-requires : goal.put_first-stationary_end-requires
put_first-stationary_end-requires c =
    let k = known c.args.report c.well_formed.1.0 c.requires.good c.if-not-report.false in
    record { inside = omega arith; room = omega arith }

pub put_first-requires : goal.put_first-requires
put_first-requires c =
    let k = known c.args.report c.well_formed.1.0 c.requires.good c.if-not-report.false in
    record { inside = omega arith; room = omega arith }

pub returns : goal.returns
returns c =
    let known = known c.args.report c.well_formed.1.0 c.requires.good c.if-not-report.false in
    let i = c.put_first-moving_end.ensures in
    let j = c.put_first-stationary_end.ensures in
    let k = c.put_first.ensures in
    let all = block_put _ known.typed known.within c.args.«data».now _ _ _ _ _ _ _ c.requires.room c.put.ensures.left
    i.left i.told j.left j.told k.left k.told in
    let on : c.args.report.has_engineering ≡ true = not-false _ c.if-not-report.false in
    rw on record { told = all.ends; left = all.holds }
