-- 53 bytes are not enough: the bytes that lead to `cut_off_parser`, what is pending then, and that the next frame is lost.
-- 54 are enough.
use mathlib.Core.Path.{◌≡◌, refl, sym, ◌∙◌, ap, subst}
use mathlib.Core.List.{List, [], ◌∷◌, ◌++◌, append-nil}
use Prim.Native.Nat.{ℕ}
use native.Mathlib.Omega.{arith}
use lib.ListN.{length}
use Rattle.wire.specs.Bytes.{Every}
use Rattle.wire.specs.Family.{header, framed}
use Rattle.wire.specs.Number.{le_bytes}
use Rattle.wire.specs.declared.Kind.TheVariants.{Report}
use Rattle.stream.specs.Length.{link_limit}
use Rattle.framing.specs.Piece.{Piece}
use Rattle.framing.specs.Division.{EndsAt}
use Rattle.framing.proofs.Framing.{Divides}
use Rattle.engine.specs.Calls.{Call, ByteCall, Goes, feeds, taken_by}
use Rattle.engine.specs.Fulfilled.{deliveries}
use Rattle.engine.proofs.Taken.{stretch_delivered}
use Rattle.stream.specs.Protocol.{ld2410}
use Rattle.stream.specs.Recovery.{Clean, Lost}
use Rattle.stream.proofs.Link.{link}
use Rattle.stream.proofs.Decoding.{decoding, counting}
use Rattle.stream.proofs.Sooner.{not_sooner}
use Rattle.scan.specs.Scan.{well_formed, or_reset}
use Rattle.scan.specs.Start.{start_of}
use Rattle.scan.specs.Stands.{pending_of}
use Rattle.step.specs.Step.{step_of, stored}
use Rattle.feed.specs.Moved.{buf_of, moved_of}
use Rattle.parser.specs.Feed.{fresh, feed_of}
use Rattle.parser.specs.Engine.{pending_by, engine}
use Rattle.parser.specs.Claims.{did, left, cut_off_parser, short_frame, TooSoon}
use Rattle.parser.proofs.Feeding.{Valid}
use Rattle.parser.proofs.Demand.{from_any, fresh_valid}

reached : left fresh (feeds (0xF4 ∷ 0xF3 ∷ 0xF2 ∷ 0xF1 ∷ 0x36 ∷ 0x00 ∷ [])) ≡ cut_off_parser
unfolding feed_of moved_of buf_of well_formed or_reset start_of step_of stored
reached = refl

stands_for : pending_by link_limit cut_off_parser ≡ header Report ++ le_bytes 2 link_limit
unfolding or_reset well_formed pending_of
stands_for = refl

lost : Lost link_limit (pending_by link_limit cut_off_parser) (short_frame ∷ [])
lost = subst (λ (p : List ℕ). Lost link_limit p (short_frame ∷ [])) (sym stands_for)
    (not_sooner link_limit (omega arith) (omega arith))

cut_off_valid : Valid link_limit cut_off_parser
cut_off_valid = record { room = fresh_valid.room; capped = fresh_valid.capped }

silent : (calls : List Call) → Every ByteCall calls → Every Goes calls → (f : List ℕ) → Clean link_limit f
    → taken_by (did cut_off_parser calls) ≡ short_frame ++ f → deliveries (ld2410 link_limit).delivers (did cut_off_parser calls) ≡ []
silent calls h g f c e =
    let p = pending_by link_limit cut_off_parser in
    let x = (from_any cut_off_parser cut_off_valid).fulfilled calls h in
    let y = x.divide (p ++ ((short_frame ++ []) ++ f)) in
    let t : taken_by (did cut_off_parser calls) ≡ (short_frame ++ []) ++ f = rw append-nil e in
    stretch_delivered (engine link_limit) (link link_limit) decoding counting p cut_off_parser calls x g y.pieces
    (rw t y.division) ∙ lost.undelivered f c y.pieces y.division

missed : (calls : List Call) → Every ByteCall calls → Every Goes calls → (f : List ℕ) → Clean link_limit f
    → (v : List ℕ) → taken_by (did cut_off_parser calls) ≡ short_frame ++ (f ++ v) → (ps : List Piece)
    → Divides (link link_limit) (pending_by link_limit cut_off_parser ++ taken_by (did cut_off_parser calls)) ps
    → ¬ EndsAt ps (length (pending_by link_limit cut_off_parser ++ (short_frame ++ f))) f
missed calls h g f c v e ps d = rw append-nil at (lost.unfound f c v ps (rw append-nil (rw e at d)))

pub too_soon : TooSoon fresh
unfolding framed
too_soon = record {
  reached = reached;
  at_53 = refl;
  lost = lost;
  unfound = missed;
  undelivered = silent;
  enough = λ calls h go g f c l x e ps d.
      (from_any cut_off_parser cut_off_valid).recovers calls h go (g ∷ []) (c, tt) (omega (arith, ap length (append-nil g))) f x
      [] (e ∙ rw (append-nil g, append-nil f) refl) ps d;
}
