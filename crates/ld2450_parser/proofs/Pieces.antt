-- What the pieces of the LD2450's stream are: what a whole frame delivers, a stray byte, a frame that breaks, and each
-- of them in one stream.
use mathlib.Core.Path.{◌≡◌, refl, sym, ap, ◌∙◌}
use native.Mathlib.Omega.{arith}
use lib.ListN.{length, take, replicate}
use lib.Seq.{length-take-le}
use Rattle.wire.specs.Counter.{bumped}
use Rattle.framing.specs.Division.{is_broken}
use Rattle.framing.proofs.Scanned.{division_exists}
use Rattle.ld2450.specs.Frame.{framed}
use Rattle.ld2450.proofs.Frames.{framed_length, parsed_frame_lem, frame_complete}
use Rattle.ld2450_parser.specs.Feed.{or_reset, due_at, abandoned, started, where_due, step_of, stored, answer_if}
use Rattle.ld2450_parser.specs.Feed.{fresh, stepped, run_of, feed_slice_of, unfinished_of}
use Rattle.ld2450_parser.specs.Pieces.{DeliversWhole, StrayBytes, BrokenFrames, one_of_each, Shown}
use Rattle.ld2450_parser.proofs.Frames.{link, waits, first_not_open}
use Rattle.ld2450_parser.proofs.Places.{framed_due, not_open}

pub delivers_whole : DeliversWhole
unfolding DeliversWhole
delivers_whole f w = (_, parsed_frame_lem f (frame_complete f w), refl)

pub stray_bytes : StrayBytes
unfolding StrayBytes
stray_bytes b = (λ no e. no (rw e (waits 1 (replicate 24 0) refl (omega arith)).0), first_not_open b)

pub broken_frames : BrokenFrames
unfolding BrokenFrames
broken_frames d n c t ps l some u o ne rest =
    let p = take n (framed d) in
    let w = waits n d l (omega arith) in
    let long : length p ≡ n = length-take-le n (framed d) (omega (arith, framed_length d l)) in
    let off = not_open n (omega arith) d l c o (λ e. ne (e ∙ sym (framed_due n d l (omega arith) o))) in
    is_broken {s = p} (λ e. omega (arith, ap length e)) w.0 w.1 off rest

pub shown : Shown fresh
unfolding or_reset due_at abandoned started where_due step_of stored answer_if stepped run_of feed_slice_of unfinished_of bumped
shown = record {
  divided = division_exists link one_of_each;
  answered = refl;
  counted = refl;
  cut_off = refl;
  wide = refl;
  full = refl;
}
