-- `report_writer::encode_data` meets its contract: front, block and trailer are put one after the other.
-- Assumes nothing.
use Prim.Native.Nat.{◌≤◌}
use native.Mathlib.Omega.{arith}
use lib.ListN.{length}
use Rattle.writer.proofs.Chain.{put_taken}
use Rattle.report_writer.specs.Data.{block_of}
use Rattle.report_writer.proofs.Counts.{writable_sound}
use Rattle.report_writer.proofs.Typed.{report_typed}
use Rattle.report_writer.proofs.ReportData.{block_short, data_put}
use Rattle.report_writer.proofs.report_data.encode_data.Goals as goal

pub overflow_add-result : goal.overflow_add-result
overflow_add-result c =
    let r = c.args.report in
    let short : length (block_of r) ≤ 28 = block_short r (report_typed r _ c.well_formed.1.0)
    (writable_sound r c.requires.good) in
    omega (arith, c.put_block-end.ensures.told)

pub returns : goal.returns
returns c =
    let r = c.args.report in
    let short : length (block_of r) ≤ 28 = block_short r (report_typed r _ c.well_formed.1.0)
    (writable_sound r c.requires.good) in
    let told = c.put_block-end.ensures in
    let all = data_put r _ c.args.«data».now _ _ _ _ (omega arith) c.front.ensures.made c.put.ensures.left
    told.left told.told c.put-2.ensures.left in
    record { told = omega (arith, all.ends); left = put_taken all }
