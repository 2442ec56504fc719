-- What a string closes, and what is pending after it.
use mathlib.Core.Path.{◌≡◌, refl, sym, ◌∙◌, ap}
use mathlib.Core.List.{List, [], ◌∷◌, ◌++◌, append_assoc, append-nil, cons≢nil}
use Prim.Native.Nat.{ℕ}
use Rattle.framing.proofs.Framing.{Framing, Waits}
use Rattle.framing.specs.Piece.{Piece}
use Rattle.framing.specs.Division.{is_empty, is_whole, is_unfinished}
use Rattle.framing.proofs.Scanner.{Step, step, closed, rest}
use Rattle.framing.proofs.View.{step_on, step_over}
use Rattle.framing.proofs.Append.{division_finished, division_cut}

module _ (F : Framing) where
  pub rest_append : (p t u : List ℕ) → rest F p (t ++ u) ≡ rest F (rest F p t) u
  rest_append p [] u = refl
  rest_append p (c ∷ t) u = rest_append (step F p c).pending t u

  pub closed_append : (p t u : List ℕ) → closed F p (t ++ u) ≡ closed F p t ++ closed F (rest F p t) u
  closed_append p [] u = refl
  closed_append p (c ∷ t) u =
      let r = step F p c in
      ap (λ (l : List Piece). r.closed ++ l) (closed_append r.pending t u)
      ∙ sym (append_assoc r.closed (closed F r.pending t) (closed F (rest F r.pending t) u))

  -- A string that waits closes no piece, and all of it is pending.
  pub waits_closed : (p : List ℕ) → Waits F p → closed F [] p ≡ []
  waits_closed [] w = refl
  waits_closed (b ∷ p) w = sym (division_finished F (is_unfinished cons≢nil w.0 w.1))

  pub waits_rest : (p : List ℕ) → Waits F p → rest F [] p ≡ p
  waits_rest [] w = refl
  waits_rest (b ∷ p) w = sym (division_cut F (is_unfinished cons≢nil w.0 w.1)) ∙ append-nil (b ∷ p)

  -- If p waits, and p ++ u does too, all of p ++ u is pending.
  pub rest_on : (p u : List ℕ) → Waits F p → Waits F (p ++ u) → rest F p u ≡ p ++ u
  rest_on p u w w' = ap (λ (q : List ℕ). rest F q u) (sym (waits_rest p w)) ∙ sym (rest_append [] p u)
      ∙ waits_rest (p ++ u) w'

  -- After a whole frame nothing is pending.
  pub rest_whole : (f : List ℕ) → F.Whole f → rest F [] f ≡ []
  rest_whole f w = ap (rest F []) (sym (append-nil f)) ∙ sym (division_cut F (is_whole w is_empty))

  -- After a byte that does not fit, that byte alone is pending if it may begin a frame, else nothing is.
  pub starts_over : (p : List ℕ) (c : ℕ) → Waits F (c ∷ []) → ¬ F.Open (p ++ (c ∷ [])) → (step F p c).pending ≡ c ∷ []
  starts_over [] c w n = absurd (n w.0)
  starts_over (b ∷ p) c w n =
      ap (λ (r : Step). r.pending) (step_over F (b ∷ p) c n) ∙ ap (λ (r : Step). r.pending) (step_on F [] c w)

  pub strays_over : (p : List ℕ) (c : ℕ) → ¬ F.Open (c ∷ []) → ¬ F.Open (p ++ (c ∷ [])) → (step F p c).pending ≡ []
  strays_over [] c w n = ap (λ (r : Step). r.pending) (step_over F [] c n)
  strays_over (b ∷ p) c w n =
      ap (λ (r : Step). r.pending) (step_over F (b ∷ p) c n) ∙ ap (λ (r : Step). r.pending) (step_over F [] c w)
