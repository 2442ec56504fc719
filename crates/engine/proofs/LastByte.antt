-- A call that took the last byte of a whole frame took no byte after it, and delivered the frame, if it decodes.
use mathlib.Core.Path.{◌≡◌, refl, ap}
use mathlib.Core.List.{List, [], ◌∷◌, ◌++◌, append_assoc}
use mathlib.Core.Bool.{Bool, true, false, cond}
use Prim.Native.Nat.{ℕ, ◌+◌, ◌-◌, ◌≤◌, ◌<◌}
use native.Mathlib.Decide.{dec_lt}
use native.Mathlib.Omega.{arith}
use lib.ListN.{length, take, drop, length-append, length-take, take-append-drop}
use lib.Seq.{length-take-le, take-take}
use Rattle.framing.proofs.Framing.{Framing, Divides, DividedIn}
use Rattle.framing.specs.Piece.{Piece, whole}
use Rattle.framing.specs.Division.{EndsAt}
use Rattle.framing.proofs.Counting.{Counting}
use Rattle.framing.proofs.Division.{last_place}
use Rattle.engine.specs.Calls.{Did, fed, sliced, cleared, taken}
use Rattle.engine.specs.Fulfilled.{delivery, answer, LastEnds, Answered, Told, to_frame, to_end, CallRight}
use Rattle.engine.proofs.Lawful.{Decoding, protocol_of}
use Rattle.engine.proofs.OneByte.{placed}
use Rattle.engine.proofs.Sure.{frame_unique, clash}
use Rattle.engine.proofs.Same.{same_last}

module _ (F : Framing) {A K : Type 0} (D : Decoding A) (C : Counting K) where
  -- An answer that is right delivers the frame that ends there, if that decodes.
  right_delivers : {s : List ℕ} {ps : List Piece} (u t : List ℕ) (a : A) (f : List ℕ) → Divides F s ps
      → Answered (protocol_of F D C) ps u t a → LastEnds ps u t f
      → cond (D.delivers a) (a ∷ []) [] ≡ answer D.decodes D.answer_of (whole f)
  right_delivers u t a f d x l = go (D.decodes f) refl (D.delivers a) refl
    where
      go : (b : Bool) → D.decodes f ≡ b → (c : Bool) → D.delivers a ≡ c
          → cond c (a ∷ []) [] ≡ cond b (D.answer_of f ∷ []) []
      go true q true r = ap (λ (y : A). y ∷ []) (x.which f l q)
      go true q false r = absurd (clash (D.delivers a) (x.when.1 (f, l, q)) r)
      go false q true r =
          let y = x.when.0 r in
          absurd (clash (D.decodes f) (rw (frame_unique F d l.1 y.1.1) y.2) q)
      go false q false r = refl

-- No frame ends at a byte that a slice call took, except perhaps the last.
not_within : {ps : List Piece} {n m k : ℕ} → Told ps n m k → (j : ℕ) → 0 < j → j < k → (f : List ℕ)
    → ¬ EndsAt ps (n + j) f
not_within (to_frame g h l x none_before) j h' l' f = none_before j f h' l'
not_within (to_end e none-there) j h' l' f = none-there j f h' (omega arith)

-- The frame f ends with the last of the bytes t, which come after p. The pieces up to there are `before` and f; those
-- of the bytes v after it are `after`.
pub record Ending (F : Framing) (p t v : List ℕ) (before : List Piece) (f : List ℕ) (after : List Piece) : Type 0 where
  pub front : Divides F (p ++ t) (before ++ (whole f ∷ []))
  pub all : Divides F (p ++ (t ++ v)) (before ++ (whole f ∷ after))

module _ (F : Framing) {A K : Type 0} (D : Decoding A) (C : Counting K) {p t v : List ℕ} {before : List Piece}
    {f : List ℕ} {after : List Piece} (end : Ending F p t v before f after) where
  ends : EndsAt (before ++ (whole f ∷ after)) (length (p ++ t)) f
  ends = record { before = before; after = after; split = refl; place = last_place before f end.front }

  -- A call that took the frame's last byte, after the bytes q, did d; the bytes w were taken after it.
  module _ (divide : (s : List ℕ) → DividedIn F s) (q w : List ℕ) where
    abbrev pieces : List ℕ → List Piece
    pieces l = (divide l).pieces

    -- If t is q and r, then f ends with the last byte of r, whatever follows.
    ends_with : (r x : List ℕ) → t ≡ q ++ r → 0 < length r → LastEnds (pieces ((p ++ q) ++ (r ++ x))) (p ++ q) r f
    ends_with r x e h =
        let whole_string : p ++ (t ++ v) ≡ (p ++ q) ++ (r ++ v) = rw e (simp append_assoc) in
        let place : length (p ++ t) ≡ length (p ++ q) + length r =
        rw e (omega (arith, length-append p (q ++ r), length-append q r, length-append p q)) in
        (same_last F (p ++ q) r v x (rw whole_string at end.all) (divide ((p ++ q) ++ (r ++ x))).division f).0
        ((λ z. absurd (omega (arith, ap length z))), placed (before ++ (whole f ∷ after)) place ends)

    abbrev n : ℕ
    n = length t - length q

    -- The call took no byte after the frame's last: a slice call stops there.
    pub exactly : (d : Did A) → CallRight (protocol_of F D C) pieces (p ++ q) w d → length q < length t
        → n ≤ length (taken d) → t ≡ q ++ take n (taken d) → n ≡ length (taken d)
    exactly (fed b a) r h l e = omega arith
    exactly cleared r h l e = absurd (omega arith)
    exactly (sliced bs k a) r h l e = go (dec_lt n (length (take k bs)))
      where
        go : Dec (n < length (take k bs)) → n ≡ length (take k bs)
        go (no z) = omega arith
        go (yes z) =
            let short : n ≤ length bs = omega (arith, length-take k bs) in
            let size : length (take n bs) ≡ n = length-take-le n bs short in
            let x = ends_with (take n bs) (drop n bs) (rw (take-take n k bs (omega (arith, length-take k bs))) at e)
            (omega arith) in
            absurd (not_within r.1 n (omega arith) (omega (arith, length-take k bs)) f
            (placed (pieces ((p ++ q) ++ bs)) (omega arith) (rw (take-append-drop n bs) at x.1)))

    pub delivers : (d : Did A) → CallRight (protocol_of F D C) pieces (p ++ q) w d → t ≡ q ++ taken d
        → length q < length t → delivery D.delivers d ≡ answer D.decodes D.answer_of (whole f)
    delivers (fed b a) r e h = right_delivers F D C (p ++ q) (b ∷ []) a f
        (divide ((p ++ q) ++ (b ∷ w))).division r (ends_with (b ∷ []) w e (omega arith))
    delivers (sliced bs k a) r e h = right_delivers F D C (p ++ q) (take k bs) a f
        (divide ((p ++ q) ++ (take k bs ++ w))).division r.0
        (ends_with (take k bs) w e (omega (arith, ap length e, length-append q (take k bs))))
    delivers cleared r e h = absurd (omega (arith, ap length e, length-append q []))
