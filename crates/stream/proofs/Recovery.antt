-- After any pending string, each clean frame that begins `limit` or more bytes later is a whole piece, in its place;
-- and, from demand 3 alone, it is delivered if it decodes.
use mathlib.Core.Path.{◌≡◌, sym, ◌∙◌, ap, subst}
use mathlib.Core.List.{List, [], ◌∷◌, ◌++◌, append-nil, append_assoc}
use Prim.Native.Nat.{ℕ, ◌≤◌}
use native.Mathlib.Omega.{arith}
use lib.ListN.{length, length-append}
use Rattle.wire.specs.Bytes.{Every}
use Rattle.framing.proofs.Framing.{Divides}
use Rattle.framing.specs.Piece.{Piece, whole}
use Rattle.framing.specs.Division.{EndsAt}
use Rattle.framing.proofs.Division.{last_place}
use Rattle.framing.proofs.Scanner.{Step, step, closed, rest}
use Rattle.framing.proofs.View.{nothing_waits, rest_waits, step_on}
use Rattle.framing.proofs.Scanned.{from, from-append, reads, scanner_sound, scanner_complete}
use Rattle.framing.proofs.Rest.{rest_append}
use Rattle.engine.specs.Calls.{Call, ByteCall, Goes, taken_by, so_far}
use Rattle.engine.specs.Engine.{Engine, call, history, final}
use Rattle.engine.specs.Fulfilled.{Fulfilled}
use Rattle.engine.specs.Delivered.{DeliveredBy}
use Rattle.engine.proofs.Delivered.{delivered_by}
use Rattle.engine.proofs.Runs.{history_append}
use Rattle.engine.proofs.Stretches.{so_far_append}
use Rattle.engine.proofs.Accounts.{all_taken}
use Rattle.stream.specs.Deliver.{Answer, Counter}
use Rattle.stream.specs.Protocol.{ld2410}
use Rattle.stream.specs.Recovery.{Clean, joined, Recovers, FoundInStretch}
use Rattle.stream.proofs.Link.{link}
use Rattle.stream.proofs.Decoding.{decoding, counting}
use Rattle.stream.proofs.Idle.{Ready, first, first_waits}
use Rattle.stream.proofs.Clean.{kind, after_first, spelled}
use Rattle.stream.proofs.Owing.{frames_ready}

module _ (limit : ℕ) (f : List ℕ) (x : Clean limit f) where
  abbrev start : ℕ
  start = first (kind limit f x)

  -- After its first byte, the frame becomes a whole piece, whatever follows it.
  alone : (v : List ℕ) → from (link limit) (start ∷ []) (after_first limit f x ++ v) ≡ whole f ∷ from (link limit) [] v
  alone v =
      let one = step_on (link limit) [] start (first_waits limit (kind limit f x)) in
      sym (sym (reads (link limit) f v x.0)
      ∙ ap (λ (g : List ℕ). from (link limit) [] (g ++ v)) (spelled limit f x)
      ∙ ap (λ (r : Step). r.closed ++ from (link limit) r.pending (after_first limit f x ++ v)) one)

  ready_found : (v q : List ℕ) → Ready limit q → from (link limit) q (f ++ v)
      ≡ (step (link limit) q start).closed ++ (whole f ∷ from (link limit) [] v)
  ready_found v q h =
      ap (λ (g : List ℕ). from (link limit) q (g ++ v)) (spelled limit f x)
      ∙ ap (λ (p : List ℕ). (step (link limit) q start).closed ++ from (link limit) p (after_first limit f x ++ v))
      (h (kind limit f x))
      ∙ ap (λ (l : List Piece). (step (link limit) q start).closed ++ l) (alone v)

  module _ (small : limit ≤ 512) (p : List ℕ) (early : List (List ℕ)) (c : Every (Clean limit) early)
      (late : limit ≤ length (joined early)) where
    abbrev t : List ℕ
    t = joined early

    -- What is pending where the frame begins, and the pieces before it.
    abbrev q : List ℕ
    q = rest (link limit) [] (p ++ t)

    abbrev before : List Piece
    before = closed (link limit) [] (p ++ t) ++ (step (link limit) q start).closed

    q_ready : Ready limit q
    q_ready =
        let some : 1 ≤ limit = omega (arith, x.0.is_in_range.0, x.0.is_in_range.1) in
        let w = rest_waits (link limit) [] p (nothing_waits (link limit)) in
        rw (rest_append (link limit) [] p t) (frames_ready limit small some (rest (link limit) [] p) w early c late)

    pieces_are : (v : List ℕ) → from (link limit) [] (p ++ (t ++ (f ++ v)))
        ≡ before ++ (whole f ∷ from (link limit) [] v)
    pieces_are v =
        ap (from (link limit) []) (sym (append_assoc p t (f ++ v)))
        ∙ from-append (link limit) [] (p ++ t) (f ++ v)
        ∙ ap (λ (l : List Piece). closed (link limit) [] (p ++ t) ++ l) (ready_found v q q_ready)
        ∙ sym (append_assoc (closed (link limit) [] (p ++ t)) (step (link limit) q start).closed
        (whole f ∷ from (link limit) [] v))

    divides : (v : List ℕ) → Divides (link limit) (p ++ (t ++ (f ++ v))) (before ++ (whole f ∷ from (link limit) [] v))
    divides v = subst (Divides (link limit) (p ++ (t ++ (f ++ v)))) (pieces_are v)
        (scanner_sound (link limit) [] (p ++ (t ++ (f ++ v))) (nothing_waits (link limit)))

    front : Divides (link limit) (p ++ (t ++ f)) (before ++ (whole f ∷ []))
    front = rw append-nil at (divides [])

    -- The frame is found, in its place.
    module _ (v : List ℕ) (ps : List Piece) (d : Divides (link limit) (p ++ (t ++ (f ++ v))) ps) where
      abbrev found : EndsAt ps (length (p ++ (t ++ f))) f
      found = record {
        before = before;
        after = from (link limit) [] v;
        split = scanner_complete (link limit) d ∙ pieces_are v;
        place = last_place before f front;
      }

      -- And delivered, by any engine that fulfils demand 3.
      delivered : {S : Type 0} (E : Engine S Answer Counter) (s : S)
          → ((calls : List Call) → Every ByteCall calls → Fulfilled (ld2410 limit) E p s calls)
          → (calls : List Call) → Every ByteCall calls → Every Goes calls
          → taken_by (history E s calls) ≡ t ++ (f ++ v)
          → DeliveredBy (ld2410 limit) (history E s calls) (t ++ f) found.before f found.after
      delivered E s fulfils calls bytes goes e =
          delivered_by (link limit) decoding counting E p s fulfils calls bytes goes
          (record { front = front; all = rw (append_assoc t f v) (divides v) }) (e ∙ sym (append_assoc t f v))
          (omega (arith, length-append t f, late, x.0.is_in_range.0, x.0.is_in_range.1))

pub recovers : (limit : ℕ) → limit ≤ 512 → {S : Type 0} (E : Engine S Answer Counter) (p : List ℕ) (s : S)
    → ((calls : List Call) → Every ByteCall calls → Fulfilled (ld2410 limit) E p s calls) → Recovers limit E p s
recovers limit small E p s fulfils calls bytes goes early c late f x v e ps d =
    let d' = subst (λ (l : List ℕ). Divides (link limit) (p ++ l) ps) e d in
    record {
      found = found limit f x small p early c (omega arith) v ps d';
      delivered = delivered limit f x small p early c (omega arith) v ps d' E s fulfils calls bytes goes e;
      anew = scanner_sound (link limit) [] v (nothing_waits (link limit));
    }

-- Whatever the stretch holds by then takes the place of the pending string p.
pub found_in_stretch : (limit : ℕ) → limit ≤ 512 → {S : Type 0} (E : Engine S Answer Counter) (p : List ℕ) (s : S)
    → FoundInStretch limit E p s
found_in_stretch limit small E p s calls more goes early c late f x v e ps d =
    let u = so_far p (history E s calls) in
    let stretch : so_far p (history E s (calls ++ more)) ≡ u ++ (joined early ++ (f ++ v)) =
    ap (so_far p) (history_append (call E) s calls more)
    ∙ so_far_append (history E s calls) p (history E (final E s calls) more)
    ∙ all_taken E more u (final E s calls) goes ∙ ap (λ (l : List ℕ). u ++ l) e in
    found limit f x small u early c (omega arith) v ps
    (subst (λ (l : List ℕ). Divides (link limit) l ps) stretch d)
