-- `ack_writer::write_ack` meets its contract: the value is tested, its data are put into an array, and the frame is
-- put around them. Assumes nothing.
use Rattle.std.proofs.Common.{refl, sym, ◌∙◌, arith}
use Rattle.wire.specs.declared.Kind.TheVariants.{Command}
use Rattle.wire.proofs.Bytes.{bytes_at}
use Rattle.writer.proofs.RoundTrip.{round_refused, round_framed}
use Rattle.ack_writer.specs.Frame.{ack_data}
use Rattle.ack_writer.proofs.AckData.{data_length, data_filled}
use Rattle.ack_writer.proofs.RoundTrip.{Fit, writable_sound, agreed}
use Rattle.ack_writer.proofs.write_ack.Goals as goal

pub returns-then-not-writable : goal.returns-then-not-writable
returns-then-not-writable c =
    let a = c.args in
    let bytes = bytes_at a.payload.now (λ i l. omega (arith, c.type_inv.payload i)) in
    let bad = sym c.writable.ensures.tested ∙ c.if-not-writable.true in
    round_refused (agreed a.word a.ok a.status a.payload.now (omega arith) (omega arith) bytes) _ bad

pub returns : goal.returns
returns c =
    let a = c.args in
    let p = a.payload.now in
    let bytes = bytes_at p (λ i l. omega (arith, c.type_inv.payload i)) in
    let good = sym c.writable.ensures.tested ∙ c.if-not-writable.false in
    let fit : Fit a.word a.ok a.status p = writable_sound _ _ _ _ good in
    let filled = data_filled a.word a.status p _ _ _ fit.short c.put_u16.ensures.left c.put_u16-2.ensures.left
    c.put.ensures.left in
    let size = data_length a.word a.status p in
    round_framed (agreed a.word a.ok a.status p (omega arith) (omega arith) bytes) Command
    (ack_data a.word a.status p) _ _ _ refl (omega arith) good filled c.put_frame.ensures
