-- A byte delivers the frame that it ends, if that decodes, and no other.
use mathlib.Core.Path.{◌≡◌, refl, sym, ◌∙◌, ap}
use mathlib.Core.List.{List, [], ◌∷◌, ◌++◌, append_assoc, append-nil}
use mathlib.Core.Bool.{Bool, true, false, cond}
use mathlib.Core.Option.{none}
use Prim.Native.Nat.{ℕ}
use Rattle.framing.proofs.Framing.{Framing}
use Rattle.framing.specs.Piece.{Piece, whole}
use Rattle.framing.proofs.Scanner.{Step, step, closed, leftover}
use Rattle.framing.proofs.View.{Does, does_end, does_open, does_stray, does_break, does}
use Rattle.engine.specs.Fulfilled.{answer, answers}
use Rattle.engine.proofs.Lawful.{answer_at, Decoding}

module _ {A : Type 0} (D : Decoding A) where
  abbrev pub answers_of : List Piece → List A
  answers_of ps = answers D.decodes D.answer_of ps

  -- The answer, if it delivers a frame.
  abbrev pub if_delivered : A → List A
  if_delivered a = cond (D.delivers a) (a ∷ []) []

  pub answers_append : (ps qs : List Piece) → answers_of (ps ++ qs) ≡ answers_of ps ++ answers_of qs
  answers_append [] qs = refl
  answers_append (p ∷ ps) qs = rw (answers_append ps qs)
      (sym (append_assoc (answer D.decodes D.answer_of p) (answers_of ps) (answers_of qs)))

  pub leftover_answers : (p : List ℕ) → answers_of (leftover p) ≡ []
  leftover_answers [] = refl
  leftover_answers (b ∷ p) = refl

  pub none_delivered : if_delivered D.none ≡ []
  none_delivered = rw D.none_delivers

  frame_delivered : (f : List ℕ) → if_delivered (D.answer_of f) ≡ answers_of (whole f ∷ [])
  frame_delivered f = go (D.decodes f) refl
    where
      go : (b : Bool) → D.decodes f ≡ b → if_delivered (D.answer_of f) ≡ cond b (D.answer_of f ∷ []) [] ++ []
      go true q = rw (D.decodes_delivers f q)
      go false q = rw (D.undecoded f q) none_delivered

  module _ (F : Framing) where
    does_deliver : {p : List ℕ} {c : ℕ} {r : Step} → Does F p c r
        → if_delivered (answer_at D r.ended) ≡ answers_of r.closed
    does_deliver (does_end {p} {c} w) = frame_delivered (p ++ (c ∷ []))
    does_deliver (does_open w) = none_delivered
    does_deliver (does_stray w) = none_delivered
    does_deliver (does_break w d) = does_deliver d

    -- The pieces that a byte closes without ending a frame deliver nothing.
    quiet : (p : List ℕ) (c : ℕ) → (step F p c).ended ≡ none → answers_of (step F p c).closed ≡ []
    quiet p c q = sym (does_deliver (does F p c)) ∙ ap (λ o. if_delivered (answer_at D o)) q ∙ none_delivered

    pub quiet_more : (p : List ℕ) (c : ℕ) (t : List ℕ) → (step F p c).ended ≡ none
        → answers_of (closed F p (c ∷ t)) ≡ answers_of (closed F (step F p c).pending t)
    quiet_more p c t q = rw (answers_append, quiet p c q)

    pub byte_delivers : (p : List ℕ) (c : ℕ) (a : A) → a ≡ answer_at D (step F p c).ended
        → if_delivered a ≡ answers_of (closed F p (c ∷ []))
    byte_delivers p c a e = ap if_delivered e ∙ does_deliver (does F p c)
        ∙ ap answers_of (sym (append-nil (step F p c).closed))
