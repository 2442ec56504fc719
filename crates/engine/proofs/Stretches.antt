-- The stretches of a history, joined, are all that was pending and taken. Each call but a reset lies in one of them.
use mathlib.Core.Path.{◌≡◌, refl, ◌∙◌, ap, subst}
use mathlib.Core.List.{List, [], ◌∷◌, ◌++◌, append_assoc, append-nil, Memᴰ}
use Prim.Native.Nat.{ℕ}
use lib.ListN.{take}
use Rattle.engine.specs.Calls.{Did, fed, sliced, cleared, Took, taken, taken_by, stretches, so_far, up_to_reset}
use Rattle.engine.specs.Fulfilled.{join_over}

module _ {A : Type 0} where
  pub stretches_joined : (ds : List (Did A)) (p : List ℕ) → join_over (λ t. t) (stretches p ds) ≡ p ++ taken_by ds
  stretches_joined [] p = refl
  stretches_joined (fed b a ∷ ds) p = stretches_joined ds (p ++ (b ∷ [])) ∙ append_assoc p (b ∷ []) (taken_by ds)
  stretches_joined (sliced bs k a ∷ ds) p =
      stretches_joined ds (p ++ take k bs) ∙ append_assoc p (take k bs) (taken_by ds)
  stretches_joined (cleared ∷ ds) p = ap (λ (l : List ℕ). p ++ l) (stretches_joined ds [])

  -- The stretch so far, after two lists of calls.
  pub so_far_append : (ds : List (Did A)) (p : List ℕ) (es : List (Did A))
      → so_far p (ds ++ es) ≡ so_far (so_far p ds) es
  so_far_append [] p es = refl
  so_far_append (fed b a ∷ ds) p es = so_far_append ds (p ++ (b ∷ [])) es
  so_far_append (sliced bs k a ∷ ds) p es = so_far_append ds (p ++ take k bs) es
  so_far_append (cleared ∷ ds) p es = so_far_append ds [] es

  -- The first stretch: what was pending, and taken up to a reset.
  first-is : (ds : List (Did A)) (p : List ℕ) → Memᴰ (p ++ up_to_reset ds) (stretches p ds)
  first-is [] p = Memᴰ.head (append-nil p)
  first-is (fed b a ∷ ds) p =
      subst (λ (l : List ℕ). Memᴰ l (stretches (p ++ (b ∷ [])) ds)) (append_assoc p (b ∷ []) (up_to_reset ds))
      (first-is ds (p ++ (b ∷ [])))
  first-is (sliced bs k a ∷ ds) p =
      subst (λ (l : List ℕ). Memᴰ l (stretches (p ++ take k bs) ds)) (append_assoc p (take k bs) (up_to_reset ds))
      (first-is ds (p ++ take k bs))
  first-is (cleared ∷ ds) p = Memᴰ.head (append-nil p)

  pub stretch_of : (before : List (Did A)) (p : List ℕ) (d : Did A) (after : List (Did A)) → Took d
      → Memᴰ (so_far p before ++ (taken d ++ up_to_reset after)) (stretches p (before ++ (d ∷ after)))
  stretch_of [] p (fed b a) after h = first-is (fed b a ∷ after) p
  stretch_of [] p (sliced bs k a) after h = first-is (sliced bs k a ∷ after) p
  stretch_of [] p cleared after h = absurd h
  stretch_of (fed b a ∷ before) p d after h = stretch_of before (p ++ (b ∷ [])) d after h
  stretch_of (sliced bs k a ∷ before) p d after h = stretch_of before (p ++ take k bs) d after h
  stretch_of (cleared ∷ before) p d after h = Memᴰ.tail (stretch_of before [] d after h)
