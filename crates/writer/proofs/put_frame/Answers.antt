-- `writer::put_frame` meets its contract: the header, the length, the data and the tail are put one after the
-- other. Assumes nothing.
use native.Mathlib.Omega.{arith}
use Rattle.writer.proofs.Frames.{put_parts, frame_refused, frame_short, frame_whole}
use Rattle.writer.proofs.put_frame.Goals as goal

pub returns-in_default : goal.returns-in_default
returns-in_default c = frame_refused c.args.kind c.args.«data».now c.args.out.now (omega (arith, c.in_default.ensures))

pub returns-then-out-needed : goal.returns-then-out-needed
returns-then-out-needed c =
    frame_short c.args.kind c.args.«data».now c.args.out.now (omega (arith, c.in-Ok.ensures)) (omega arith)

pub returns : goal.returns
returns c =
    let e₁ = rw c.header_of-header.ensures.headed at c.put.ensures.left in
    let e₂ = rw c.in-Ok.ensures.1 at c.put_u16.ensures.left in
    let e₄ = rw c.tail_of-tail.ensures.tailed at c.put-3.ensures.left in
    let left = put_parts c.args.out.now c.args.kind c.args.«data».now _ _ _ _ (omega arith) e₁ e₂ c.put-2.ensures.left
    e₄ in
    frame_whole c.args.kind c.args.«data».now c.args.out.now (omega (arith, c.in-Ok.ensures)) _ (omega arith) left
