-- Two byte strings are the same exactly if `same_bytes` is true.
use mathlib.Core.Path.{◌≡◌, refl}
use mathlib.Core.List.{List, [], ◌∷◌}
use mathlib.Core.Bool.{Bool, true, false, and-eq-true_iff}
use Prim.Native.Nat.{ℕ}
use lib.Dec.{eqb}
use lib.Pointwise.{pointwise}
use borrow.Author.Tests.{eqb-true, eq-eqb}
use Rattle.wire.specs.Equal.{same_bytes}

pub same_refl : (s : List ℕ) → same_bytes s s ≡ true
unfolding same_bytes
same_refl [] = refl
same_refl (a ∷ s) = rw (eq-eqb a a refl, same_refl s)

pub same_sound : (s t : List ℕ) → same_bytes s t ≡ true → s ≡ t
unfolding same_bytes
same_sound [] [] e = refl
same_sound [] (b ∷ t) e = let z : false ≡ true = e in cc
same_sound (a ∷ s) [] e = let z : false ≡ true = e in cc
same_sound (a ∷ s) (b ∷ t) e =
    let x = (and-eq-true_iff (eqb a b) (same_bytes s t)).0 e in
    let h : a ≡ b = eqb-true a b x.0 in
    let t : s ≡ t = same_sound s t x.1 in
    cc

-- What std's comparison of two slices answers.
pub same_pairwise : (s t : List ℕ) → pointwise eqb s t ≡ same_bytes s t
unfolding same_bytes
same_pairwise [] [] = refl
same_pairwise [] (b ∷ t) = refl
same_pairwise (a ∷ s) [] = refl
same_pairwise (a ∷ s) (b ∷ t) = rw (same_pairwise s t)

pub same_complete : (s t : List ℕ) → s ≡ t → same_bytes s t ≡ true
same_complete s t e = rw e (same_refl t)

pub same_differs : (s t : List ℕ) → (s ≡ t → ⊥) → same_bytes s t ≡ false
same_differs s t h = go (same_bytes s t) refl
  where
    go : (b : Bool) → same_bytes s t ≡ b → same_bytes s t ≡ false
    go true e = absurd (h (same_sound s t e))
    go false e = e
