-- `ld2450::write_targets` meets its contract: the targets are tested, and if the frame fits, each put extends what is
-- written, by the header, each target's bytes and the tail. Assumes nothing.
use mathlib.Core.Path.{sym, ◌∙◌}
use Rattle.writer.proofs.Writers.{wrote_short, wrote_whole}
use Rattle.writer.proofs.RoundTrip.{round_refused, round_wrote}
use Rattle.ld2450.specs.Bytes.{targets_frame}
use Rattle.ld2450.proofs.Typed.{targets_typed}
use Rattle.ld2450.proofs.FrameRound.{agreed}
use Rattle.ld2450.proofs.FrameWritten.{frame_size, frame_put}
use Rattle.ld2450.proofs.Unsayable.{sends}
use Rattle.ld2450.proofs.write_targets.Goals as goal

pub returns-then-not-all_writable : goal.returns-then-not-all_writable
returns-then-not-all_writable c =
    let ts = c.args.targets in
    let typed = targets_typed ts _ c.well_formed.1.0 in
    let bad = sym c.all_writable.ensures.tested ∙ c.if-not-all_writable.true in
    sends ts typed _ _ (round_refused (agreed ts typed) _ bad)

pub returns-then-out-lt-FRAME_LEN : goal.returns-then-out-lt-FRAME_LEN
returns-then-out-lt-FRAME_LEN c =
    let ts = c.args.targets in
    let typed = targets_typed ts _ c.well_formed.1.0 in
    let short = wrote_short (targets_frame ts) _ 30 (sym (frame_size ts typed.size)) c.if-out-lt-FRAME_LEN.true in
    let good = sym c.all_writable.ensures.tested ∙ c.if-not-all_writable.false in
    sends ts typed _ _ (round_wrote (agreed ts typed) _ _ good short)

pub returns : goal.returns
returns c =
    let ts = c.args.targets in
    let typed = targets_typed ts _ c.well_formed.1.0 in
    let n = typed.size in
    let room = c.if-out-lt-FRAME_LEN.false in
    let left = frame_put ts n c.args.out.now room c.target_bytes.ensures.little c.target_bytes-2.ensures.little
    c.target_bytes-3.ensures.little c.put.ensures.left c.put-2.ensures.left c.put-3.ensures.left c.put-4.ensures.left
    c.put-5.ensures.left in
    let whole = wrote_whole (targets_frame ts) _ 30 _ (sym (frame_size ts n)) room left in
    let good = sym c.all_writable.ensures.tested ∙ c.if-not-all_writable.false in
    sends ts typed _ _ (round_wrote (agreed ts typed) _ _ good whole)
