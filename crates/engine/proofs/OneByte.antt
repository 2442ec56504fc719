-- When answers and counts are right after the open string p: for one byte, and with more bytes before the call.
use mathlib.Core.Path.{◌≡◌, refl, sym, ◌∙◌, ap, subst}
use mathlib.Core.Logic.{◌≢◌}
use mathlib.Core.List.{List, [], ◌∷◌, ◌++◌, append_assoc, cons≢nil}
use mathlib.Core.Option.{Option, none, some}
use Prim.Native.Nat.{ℕ, zero, suc, ◌+◌, ◌<◌}
use native.Mathlib.Omega.{arith}
use lib.ListN.{length, take, length-append}
use Rattle.framing.proofs.Framing.{Framing}
use Rattle.framing.specs.Piece.{Piece}
use Rattle.framing.specs.Division.{EndsAt}
use Rattle.framing.proofs.Scanner.{step, rest}
use Rattle.framing.proofs.Ends.{ends_out, ends_in}
use Rattle.framing.proofs.Scanned.{from}
use Rattle.framing.proofs.Resyncs.{filled}
use Rattle.framing.proofs.Events.{none≢some, step_event, event_step, shift}
use Rattle.engine.specs.Calls.{Did, fed, sliced, cleared}
use Rattle.engine.specs.Fulfilled.{Told, to_frame, to_end}
use Rattle.engine.proofs.Lawful.{answer_at, Decoding}

-- The call took the bytes t after n bytes of a stretch with the pieces ps. It answers with the frame that ends with the
-- last byte taken, and "no frame" if no frame ends there or no byte was taken.
pub data Answering {A : Type 0} (D : Decoding A) (ps : List Piece) (n : ℕ) (t : List ℕ) (a : A) : Type 0 where
  frame : (f : List ℕ) → t ≢ [] → EndsAt ps (n + length t) f → a ≡ D.answer_of f → Answering D ps n t a
  no_frame_lem : t ≢ [] → ((f : List ℕ) → ¬ EndsAt ps (n + length t) f) → a ≡ D.none → Answering D ps n t a
  no_byte : t ≡ [] → a ≡ D.none → Answering D ps n t a

pub placed : (ps : List Piece) {m n : ℕ} {f : List ℕ} → m ≡ n → EndsAt ps m f → EndsAt ps n f
placed ps {f = f} e x = subst (λ (i : ℕ). EndsAt ps i f) e x

module _ (F : Framing) where
  -- The place where a frame ends after the bytes u, counted from after u and from before u.
  module _ (p u v : List ℕ) (n j : ℕ) (f : List ℕ) (h : 0 < j) where
    shifted_out : EndsAt (from F (rest F p u) v) (length (rest F p u) + n + j) f
        → EndsAt (from F p (u ++ v)) (length p + (length u + n) + j) f
    shifted_out x = placed (from F p (u ++ v)) (omega arith) (ends_out ((shift F p u v (n + j) f (omega arith)).1
        (ends_in (placed (from F (rest F p u) v) (omega arith) x))))

    shifted_in : EndsAt (from F p (u ++ v)) (length p + (length u + n) + j) f
        → EndsAt (from F (rest F p u) v) (length (rest F p u) + n + j) f
    shifted_in x = placed (from F (rest F p u) v) (omega arith) (ends_out ((shift F p u v (n + j) f (omega arith)).0
        (ends_in (placed (from F p (u ++ v)) (omega arith) x))))

  -- No frame ends at a byte where the scanner ends none.
  no_event : (p : List ℕ) (b : ℕ) (v : List ℕ) → (step F p b).ended ≡ none
      → (f : List ℕ) → ¬ EndsAt (from F p (b ∷ v)) (length p + 0 + 1) f
  no_event p b v q f x =
      none≢some (sym q ∙ step_event F p b v f (ends_in (placed (from F p (b ∷ v)) (omega arith) x)))

  -- Counts, after other bytes, and after one more byte at which no frame ended.
  told_after : (p u v : List ℕ) (n m k : ℕ) → Told (from F (rest F p u) v) (length (rest F p u) + n) m k
      → Told (from F p (u ++ v)) (length p + (length u + n)) m k
  told_after p u v n m k (to_frame f h l x none_before) = to_frame f h l (shifted_out p u v n k f h x)
      (λ j g h' l' y. none_before j g h' l' (shifted_in p u v n j g h' y))
  told_after p u v n m k (to_end e none-there) =
      to_end e (λ j g h' l' y. none-there j g h' l' (shifted_in p u v n j g h' y))

  module _ (p : List ℕ) (b : ℕ) (bs : List ℕ) (q : (step F p b).ended ≡ none) where
    abbrev NoneIn : ℕ → ℕ → Type 0
    NoneIn n k = (j : ℕ) (g : List ℕ) → 0 < j → j < k → ¬ EndsAt (from F p (b ∷ bs)) (length p + n + j) g

    none_more : (k : ℕ) → NoneIn 1 k → NoneIn 0 (suc k)
    none_more k none_before zero g h l x = omega arith
    none_more k none_before (suc zero) g h l x = no_event p b bs q g x
    none_more k none_before (suc (suc i)) g h l x = none_before (suc i) g (omega arith) (omega arith)
        (placed (from F p (b ∷ bs)) (omega arith) x)

    one_more : (m k : ℕ) → Told (from F p (b ∷ bs)) (length p + 1) m k
        → Told (from F p (b ∷ bs)) (length p + 0) (suc m) (suc k)
    one_more m k (to_frame f h l x none_before) = to_frame f (omega arith) (omega arith)
        (placed (from F p (b ∷ bs)) (omega arith) x) (none_more k none_before)
    one_more m k (to_end e none-there) = to_end (ap suc e)
        (λ j g h l. none_more (suc m) (λ i g' h' l'. none-there i g' h' (omega arith)) j g h (omega arith))

    pub told_more : (m k : ℕ) → Told (from F (step F p b).pending bs) (length (step F p b).pending + 0) m k
        → Told (from F p (b ∷ bs)) (length p + 0) (suc m) (suc k)
    told_more m k x = one_more m k (told_after p (b ∷ []) bs 0 m k x)

  pub told_here : (p : List ℕ) (b : ℕ) (bs f : List ℕ) → (step F p b).ended ≡ some f
      → Told (from F p (b ∷ bs)) (length p + 0) (suc (length bs)) 1
  told_here p b bs f q = to_frame f (omega arith) (omega arith)
      (placed (from F p (b ∷ bs)) (omega arith) (ends_out (event_step F p b bs f q))) (λ j g h l y. omega arith)

  module _ {A : Type 0} (D : Decoding A) where
    -- Answers, after other bytes.
    answered_after : (p u v : List ℕ) (n : ℕ) (t : List ℕ) (a : A)
        → Answering D (from F (rest F p u) v) (length (rest F p u) + n) t a
        → Answering D (from F p (u ++ v)) (length p + (length u + n)) t a
    answered_after p u v n t a (frame f ne x e) =
        frame f ne (shifted_out p u v n (length t) f (filled t ne) x) e
    answered_after p u v n t a (no_frame_lem ne x e) =
        no_frame_lem ne (λ f y. x f (shifted_in p u v n (length t) f (filled t ne) y)) e
    answered_after p u v n t a (no_byte z e) = no_byte z e

    -- A byte's answer.
    pub answered_byte : (p : List ℕ) (b : ℕ) (v : List ℕ) (a : A) → a ≡ answer_at D (step F p b).ended
        → Answering D (from F p (b ∷ v)) (length p + 0) (b ∷ []) a
    answered_byte p b v a e = go (step F p b).ended refl
      where
        go : (o : Option (List ℕ)) → (step F p b).ended ≡ o
            → Answering D (from F p (b ∷ v)) (length p + 0) (b ∷ []) a
        go none q = no_frame_lem cons≢nil (no_event p b v q) (e ∙ ap (answer_at D) q)
        go (some f) q = frame f cons≢nil
            (placed (from F p (b ∷ v)) (omega arith) (ends_out (event_step F p b v f q))) (e ∙ ap (answer_at D) q)

    -- One more byte in front, at which no frame ended.
    pub answered_more : (p : List ℕ) (b : ℕ) (t v : List ℕ) (a : A) → (step F p b).ended ≡ none
        → Answering D (from F (step F p b).pending (t ++ v)) (length (step F p b).pending + 0) t a
        → Answering D (from F p (b ∷ (t ++ v))) (length p + 0) (b ∷ t) a
    answered_more p b t v a q x = wider (answered_after p (b ∷ []) (t ++ v) 0 t a x)
      where
        wider : Answering D (from F p (b ∷ (t ++ v))) (length p + 1) t a
            → Answering D (from F p (b ∷ (t ++ v))) (length p + 0) (b ∷ t) a
        wider (frame f ne y e) = frame f cons≢nil (placed (from F p (b ∷ (t ++ v))) (omega arith) y) e
        wider (no_frame_lem ne y e) =
            no_frame_lem cons≢nil (λ f z. y f (placed (from F p (b ∷ (t ++ v))) (omega arith) z)) e
        wider (no_byte z e) = no_frame_lem cons≢nil
            (λ f y. no_event p b (t ++ v) q f (placed (from F p (b ∷ (t ++ v))) (omega (arith, ap length z)) y)) e

    -- A call is right after p and the bytes u; v are all the bytes after p, u included.
    abbrev pub RightAfter : (p u v : List ℕ) → Did A → Type 0
    RightAfter p u v (fed b a) = Answering D (from F p v) (length p + length u) (b ∷ []) a
    RightAfter p u v (sliced bs k a) = Answering D (from F p v) (length p + length u) (take k bs) a
        × Told (from F p (u ++ bs)) (length p + length u) (length bs) k
    RightAfter p u v cleared = Unit {0}

    pub right_after : (p w u v : List ℕ) (d : Did A) → RightAfter (rest F p w) u v d
        → RightAfter p (w ++ u) (w ++ v) d
    right_after p w u v (fed b a) x = rw length-append (answered_after p w v (length u) (b ∷ []) a x)
    right_after p w u v (sliced bs k a) x = rw (length-append, append_assoc) (
      answered_after p w v (length u) (take k bs) a x.0,
      told_after p w (u ++ bs) (length u) (length bs) k x.1,
    )
    right_after p w u v cleared x = tt
