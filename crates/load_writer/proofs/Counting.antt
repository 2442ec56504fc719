-- What every parser counts in a load, and that each piece that is a frame ends in its place.
--   is_frame x       whether the piece after the number x is a basic report or the acknowledgement
--   is_last x        whether it is the byte that a cut report lacks
--   mends c k x     how many of the first k pieces mend the cut report before them; c tells whether the first has one
--   content c k x   the content of the first k pieces, where c tells the same; content_by, of the piece that i chooses
use mathlib.Core.Path.{◌≡◌, refl}
use mathlib.Core.List.{List, [], ◌∷◌, ◌++◌, append-nil}
use mathlib.Core.Bool.{Bool, true, false, cond, ◌&&◌, ◌||◌, and-false, false≢true}
use Prim.Native.Nat.{ℕ, zero, suc, ◌+◌, ◌-◌, ◌*◌, ◌^◌, ◌≤◌, ◌<◌}
use native.Mathlib.Nat.{mod-lt}
use native.Mathlib.Omega.{arith}
use lib.Dec.{eqb}
use lib.ListN.{length, take, length-append}
use Rattle.wire.specs.Family.{framed}
use Rattle.wire.specs.declared.Kind.TheVariants.{Report, Command}
use Rattle.framing.specs.Piece.{whole}
use Rattle.framing.specs.Tally.{in_frames}
use Rattle.framing.proofs.Division.{division_length}
use Rattle.framing.proofs.Scanner.{closed, rest, pieces}
use Rattle.framing.proofs.Scanned.{from, scanner_complete, division_unique, division_exists}
use Rattle.framing.proofs.Rest.{closed_append, rest_append}
use Rattle.framing.proofs.Ends.{Ends, ends_to, ends_out}
use Rattle.stream.specs.Deliver.{decodes, adds, frames, resyncs, malformed}
use Rattle.stream.proofs.Link.{link}
use Rattle.load_writer.specs.Draw.{draw_of}
use Rattle.load_writer.specs.Load.{after, drawn, basic_report, piece_by, piece, first_pieces}
use Rattle.load_writer.specs.Counts.{held_after, choice, byte_of, is_report, is_cut, is_ack, is_start, is_mended}
use Rattle.load_writer.specs.Counts.{how_many, mended, AddsUp, Counted}
use Rattle.load_writer.proofs.Linear.{draw_bound}
use Rattle.load_writer.proofs.Frames.{report_decodes, ack_decodes, ack_whole, report_whole, cut_waits}
use Rattle.load_writer.proofs.Scanning.{Content, ending, broke, Tally, tally_open, tally_whole, tally_broke}
use Rattle.load_writer.proofs.Scanning.{tally_append, leftover_adds, leftover_waits, Scans, whole_scans}
use Rattle.load_writer.proofs.Scanning.{open_scans, ends-here, ends_later}
use Rattle.load_writer.proofs.Pending.{Pends, nothing, cut, Reads, anew, byte_reads}

-- A piece that is a frame decodes.
by_decodes : (i y : ℕ) → eqb i 1 || eqb i 3 ≡ true → decodes (piece_by i y).bytes ≡ true
by_decodes zero y e = absurd (false≢true e)
by_decodes (suc zero) y e = report_decodes y
by_decodes (suc (suc zero)) y e = absurd (false≢true e)
by_decodes (suc (suc (suc i))) y e = ack_decodes

abbrev is_frame : ℕ → Bool
is_frame x = is_report x || is_ack x

piece_decodes : (x : ℕ) → is_frame x ≡ true → decodes (piece x).bytes ≡ true
unfolding piece
piece_decodes x e = by_decodes (choice x) (draw_of x) e

-- The number after a piece has 32 bits.
after_bound : (n x : ℕ) → x < 2 ^ 32 → after n x < 2 ^ 32
after_bound zero x l = l
after_bound (suc n) x l = after_bound n (draw_of x) (draw_bound x l)

by_bound : (i y : ℕ) → y < 2 ^ 32 → (piece_by i y).next < 2 ^ 32
by_bound zero y l = after_bound 1 y l
by_bound (suc zero) y l = after_bound 9 y l
by_bound (suc (suc zero)) y l = after_bound 9 y l
by_bound (suc (suc (suc i))) y l = l

next_bound : (x : ℕ) → x < 2 ^ 32 → (piece x).next < 2 ^ 32
unfolding piece
next_bound x l = by_bound (choice x) (draw_of x) (draw_bound x l)

-- Mended reports, by the byte that mends them.
abbrev is_last : ℕ → Bool
is_last x = eqb (choice x) 0 && eqb (byte_of x) 0xF5

abbrev mends : Bool → ℕ → ℕ → ℕ
mends c zero x = 0
mends c (suc k) x = cond (c && is_last x) 1 0 + mends (is_cut x) k (piece x).next

mends_more : (c : Bool) (k x : ℕ) → mends c (suc k) x ≡ cond (c && is_last x) 1 0 + how_many is_mended k x
mends_more c zero x = refl
mends_more c (suc k) x = omega (arith, mends_more (is_cut x) k (piece x).next)

mends_all : (k x : ℕ) → mends false k x ≡ mended k x
mends_all zero x = refl
mends_all (suc k) x = let e : suc k - 1 ≡ k = omega arith in rw e (omega (arith, mends_more false k x))

abbrev content : Bool → ℕ → ℕ → Content
content c k x = record {
  reports = how_many is_report k x;
  cuts = how_many is_cut k x;
  acks = how_many is_ack k x;
  starts = how_many is_start k x;
  mended = mends c k x;
}

abbrev content_by : Bool → ℕ → ℕ → Content
content_by c x i = record {
  reports = cond (eqb i 1) 1 0;
  cuts = cond (eqb i 2) 1 0;
  acks = cond (eqb i 3) 1 0;
  starts = cond (eqb i 0 && (eqb (byte_of x) 0xF4 || eqb (byte_of x) 0xFD)) 1 0;
  mended = cond (c && (eqb i 0 && eqb (byte_of x) 0xF5)) 1 0;
}

module _ (limit : ℕ) (room : 13 ≤ limit) where
  module _ {c : Bool} {x : ℕ} {p : List ℕ} (h : Pends c x p) where
    -- Whatever is pending, a piece that is a frame is closed whole.
    by_closes : (i y : ℕ) → eqb i 1 || eqb i 3 ≡ true
        → Scans (link limit) p (piece_by i y).bytes (broke p ++ (whole (piece_by i y).bytes ∷ [])) []
    unfolding framed
    by_closes zero y e = absurd (false≢true e)
    by_closes (suc zero) y e = anew limit room h Report (whole_scans (link limit) _ (report_whole limit room y))
    by_closes (suc (suc zero)) y e = absurd (false≢true e)
    by_closes (suc (suc (suc i))) y e = anew limit room h Command (whole_scans (link limit) _ (ack_whole limit room))

    piece_closes : is_frame x ≡ true
        → Scans (link limit) p (piece x).bytes (broke p ++ (whole (piece x).bytes ∷ [])) []
    unfolding piece
    piece_closes e = by_closes (choice x) (draw_of x) e

    -- A piece closes what its content adds up to.
    by_frame : (i y z r a : ℕ) → eqb i 1 || eqb i 3 ≡ true → r + a ≡ 1 → length (piece_by i y).bytes ≡ 23 * r + 18 * a
        → Reads limit p (piece_by i y).bytes (ending r a 0) false z
    by_frame i y z r a e one l = record {
      pieces = broke p ++ (whole (piece_by i y).bytes ∷ []);
      left = [];
      tally = tally_broke p (tally_whole _ r a 0 (by_decodes i y e) (omega arith) (omega arith) refl);
      scans = by_closes i y e;
      pends = nothing;
    }

    by_reads : x < 2 ^ 32 → (i : ℕ) → i < 4 → choice x ≡ i
        → Reads limit p (piece_by i (draw_of x)).bytes (content_by c x i) (eqb i 2) (piece_by i (draw_of x)).next
    unfolding framed
    by_reads l zero u e = byte_reads limit room x l e h
    by_reads l (suc zero) u e = rw (and-false c) (by_frame 1 (draw_of x) _ 1 0 refl refl refl)
    by_reads l (suc (suc zero)) u e = rw (and-false c) (record {
      pieces = broke p ++ [];
      left = take 22 (basic_report (drawn 9 (draw_of x)));
      tally = tally_broke p (tally_open 1 0 refl);
      scans = anew limit room h Report (open_scans (link limit) _ (cut_waits limit room (draw_of x)));
      pends = cut (draw_of x);
    })
    by_reads l (suc (suc (suc zero))) u e = rw (and-false c) (by_frame 3 (draw_of x) _ 0 1 refl refl refl)
    by_reads l (suc (suc (suc (suc i)))) u e = absurd (omega arith)

    piece_reads : x < 2 ^ 32 → Reads limit p (piece x).bytes (content_by c x (choice x)) (is_cut x) (piece x).next
    unfolding piece
    piece_reads l = by_reads l (choice x) (mod-lt (draw_of x) (omega arith)) refl

  -- So do the first k pieces.
  counts : (k x : ℕ) {c : Bool} {p : List ℕ} → x < 2 ^ 32 → Pends c x p
      → let s = first_pieces k x in Tally p (closed (link limit) p s) (rest (link limit) p s) (content c k x)
  counts zero x l h = tally_open 0 0 (omega arith)
  counts (suc k) x {p = p} l h =
      let r = piece_reads h l in
      rw (
        closed_append (link limit) p (piece x).bytes (first_pieces k (piece x).next),
        rest_append (link limit) p (piece x).bytes (first_pieces k (piece x).next),
        r.scans.closes,
        r.scans.leaves,
      )
      (tally_append r.tally (counts k (piece x).next (next_bound x l) r.pends))

  adds_up : (k x : ℕ) → x < 2 ^ 32 → AddsUp k x (pieces (link limit) (first_pieces k x))
  adds_up k x l =
      let s = first_pieces k x in
      let ps = closed (link limit) [] s in
      let q = rest (link limit) [] s in
      let t = counts k x l nothing in
      let m = mends_all k x in
      let w = leftover_waits ps q in
      record {
        all_frames = omega (arith, leftover_adds (adds frames) (λ u. refl) ps q);
        none_malformed = omega (arith, leftover_adds (adds malformed) (λ u. refl) ps q);
        all_resyncs = omega (arith, leftover_adds (adds resyncs) (λ u. refl) ps q);
        all_dropped = omega (
          arith,
          leftover_adds in_frames (λ u. refl) ps q,
          division_length (division_exists (link limit) s),
        );
      }

  -- Each piece that is a frame ends in its place.
  finds : (i k x : ℕ) {c : Bool} {p : List ℕ} → x < 2 ^ 32 → Pends c x p → i < k → is_frame (held_after i x) ≡ true
      → Ends (from (link limit) p (first_pieces k x)) (length p + length (first_pieces (suc i) x))
      (piece (held_after i x)).bytes
  finds i zero x l h u e = absurd (omega arith)
  finds zero (suc k) x {p = p} l h u e = rw append-nil
      (ends-here (link limit) p (piece x).bytes (first_pieces k (piece x).next) (broke p) (piece_closes h e))
  finds (suc i) (suc k) x {p = p} l h u e =
      let r = piece_reads h l in
      rw (length-append (piece x).bytes (first_pieces (suc i) (piece x).next))
      (ends_later (link limit) p (piece x).bytes (first_pieces k (piece x).next) _ r.scans
      (finds i k (piece x).next (next_bound x l) r.pends (omega arith) e))

pub counted : (x : ℕ) → x < 4294967296 → Counted x
counted x l = record {
  decode = λ k e. piece_decodes (held_after k x) e;
  found = λ limit k i room u e ps d.
      rw (scanner_complete (link limit) d) (ends_out (ends_to (omega arith) (finds limit room i k x l nothing u e)));
  counts = λ limit k room ps d.
      rw (division_unique (link limit) d (division_exists (link limit) (first_pieces k x))) (adds_up limit room k x l);
}
