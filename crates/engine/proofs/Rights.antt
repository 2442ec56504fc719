-- A call that is right after what is pending is right in its stretch.
--   Rights u ds   the claim about each call of a history ds, which begins after the bytes u of a stretch
use mathlib.Core.Path.{◌≡◌, refl, ◌∙◌, ap, subst}
use mathlib.Core.List.{List, [], ◌∷◌, ◌++◌, append-nil, nil≢cons, head-eq_of_cons-eq, tail-eq_of_cons-eq}
use mathlib.Core.Bool.{Bool, true, false}
use Prim.Native.Nat.{ℕ, ◌+◌}
use native.Mathlib.Omega.{arith}
use lib.ListN.{length, take}
use Rattle.framing.proofs.Framing.{Framing, Divides}
use Rattle.framing.specs.Piece.{Piece}
use Rattle.framing.proofs.Counting.{Counting}
use Rattle.framing.proofs.Scanner.{rest}
use Rattle.framing.proofs.Scanned.{divided, scanner_sound}
use Rattle.framing.proofs.View.{nothing_waits}
use Rattle.engine.specs.Calls.{Did, fed, sliced, cleared, taken, so_far, up_to_reset}
use Rattle.engine.specs.Fulfilled.{Protocol, Answered, CallRight}
use Rattle.engine.proofs.Lawful.{Decoding, protocol_of}
use Rattle.engine.proofs.OneByte.{Answering, frame, no_frame_lem, no_byte, RightAfter, right_after}
use Rattle.engine.proofs.Sure.{frame_unique, clash}
use Rattle.engine.proofs.Moves.{DidRight}

module _ {A K : Type 0} (P : Protocol A K) (pieces : List ℕ → List Piece) where
  abbrev pub Rights : List ℕ → List (Did A) → Type 0
  Rights u ds = (before : List (Did A)) (d : Did A) (after : List (Did A)) → ds ≡ before ++ (d ∷ after)
      → CallRight P pieces (so_far u before) (up_to_reset after) d

  pub rights_none : (u : List ℕ) → Rights u []
  rights_none u [] d after e = absurd (nil≢cons e)
  rights_none u (x ∷ before) d after e = absurd (nil≢cons e)

  pub rights_more : (u v : List ℕ) (x : Did A) (ds : List (Did A))
      → ((before : List (Did A)) → so_far u (x ∷ before) ≡ so_far v before)
      → ((t : List ℕ) → CallRight P pieces u t x) → Rights v ds → Rights u (x ∷ ds)
  rights_more u v x ds q first more [] d after e =
      subst (λ (y : Did A). CallRight P pieces u (up_to_reset after) y) (head-eq_of_cons-eq e)
      (first (up_to_reset after))
  rights_more u v x ds q first more (y ∷ before) d after e =
      subst (λ (z : Did A). CallRight P pieces (so_far u (z ∷ before)) (up_to_reset after) d) (head-eq_of_cons-eq e)
      (rw (q before) (more before d after (tail-eq_of_cons-eq e)))

module _ (F : Framing) {A K : Type 0} (D : Decoding A) (C : Counting K) where
  abbrev pub P : Protocol A K
  P = protocol_of F D C

  -- The answer is that of the frame that ended, or "no frame": so the call delivers exactly what it should.
  exactly : {s u t : List ℕ} {ps : List Piece} {a : A} → Divides F s ps → Answering D ps (length u) t a
      → Answered P ps u t a
  exactly {u = u} {t} {ps} {a} d (frame f ne x e) = go (D.decodes f) refl
    where
      go : (b : Bool) → D.decodes f ≡ b → Answered P ps u t a
      go true q = record {
        when = ((λ z. (f, (ne, x), q)), (λ y. rw e (D.decodes_delivers f q)));
        which = λ g y r. e ∙ ap D.answer_of (frame_unique F d x y.1);
        else = λ z. absurd (clash (D.delivers a) (rw e (D.decodes_delivers f q)) z);
      }
      go false q =
          let none = e ∙ D.undecoded f q in
          record {
            when = (
              (λ z. absurd (clash (D.delivers a) z (rw none D.none_delivers))),
              (λ y. absurd (clash (D.decodes f) (rw (frame_unique F d x y.1.1) y.2) q)),
            );
            which = λ g y r. e ∙ ap D.answer_of (frame_unique F d x y.1);
            else = λ z. none;
          }
  exactly {a = a} d (no_frame_lem ne x e) = record {
    when = (
      (λ z. absurd (clash (D.delivers a) z (rw e D.none_delivers))),
      (λ y. absurd (x y.0 y.1.1)),
    );
    which = λ g y r. absurd (x g y.1);
    else = λ z. e;
  }
  exactly {a = a} d (no_byte n e) = record {
    when = (
      (λ z. absurd (clash (D.delivers a) z (rw e D.none_delivers))),
      (λ y. absurd (y.1.0 n)),
    );
    which = λ g y r. absurd (y.0 n);
    else = λ z. e;
  }

  abbrev pub pieces : List ℕ → List Piece
  pieces t = (divided F t).pieces

  -- A call that is right after the bytes u of a stretch that began empty is right by the claim.
  right_at : (u v : List ℕ) (d : Did A) → RightAfter F D [] u (u ++ (taken d ++ v)) d → CallRight P pieces u v d
  unfolding divided
  right_at u v (fed b a) x =
      let z : 0 + length u ≡ length u = omega arith in
      exactly {s = u ++ (b ∷ v)} (scanner_sound F [] (u ++ (b ∷ v)) (nothing_waits F)) (rw z at x)
  right_at u v (sliced bs k a) x =
      let z : 0 + length u ≡ length u = omega arith in
      let w = u ++ (take k bs ++ v) in
      let y = rw z at x in
      (exactly {s = w} (scanner_sound F [] w (nothing_waits F)) y.0, y.1)
  right_at u v cleared x = tt

  pub call_right : (u v : List ℕ) (d : Did A) → DidRight F D (rest F [] u) d → CallRight P pieces u v d
  call_right u v d r = right_at u v d (rw append-nil at (right_after F D [] u [] (taken d ++ v) d (r.right v)))
