-- What the tests say of a string that ends within a word, or goes on after it, and of a length.
use mathlib.Core.Path.{◌≡◌, refl, ap, ◌∙◌}
use mathlib.Core.Logic.{◌↔◌, ◌⊎◌, inl, inr, ⊎_elim}
use mathlib.Core.List.{List, [], ◌∷◌, ◌++◌, append-nil}
use mathlib.Core.Bool.{Bool, true, and-eq-true_iff}
use Prim.Native.Nat.{ℕ}
use lib.Dec.{T, eqb}
use borrow.Author.Tests.{eqb-true, leb-true, le-leb}
use Rattle.wire.specs.Family.{tail}
use Rattle.wire.specs.declared.Kind.{Kind}
use Rattle.framing.proofs.Tests.{T_and}
use Rattle.stream.specs.Open.{Prefix}
use Rattle.stream.specs.Length.{InRange, in_range}
use Rattle.stream.proofs.Scan.{after, at_end}

-- One more byte in front of a prefix.
prefix_cons : (b x : ℕ) (s w : List ℕ) → b ≡ x → Prefix s w → Prefix (b ∷ s) (x ∷ w)
prefix_cons b x s w e p = (p.0, let q = p.1 in cc)

-- A string that passes ends within the word, if the word may be cut, or goes on after it.
pub after_sound : (cut : Bool) (w : List ℕ) (next : List ℕ → Bool) (s : List ℕ) → T (after cut w next s)
    → (T cut × Prefix s w) ⊎ ((r : List ℕ) × (s ≡ w ++ r) × T (next r))
after_sound cut [] next s h = inr (s, refl, h)
after_sound cut (x ∷ w) next [] h = inl (h, (x ∷ w, refl))
after_sound cut (x ∷ w) next (b ∷ s) h =
    let p = (T_and (eqb b x) (after cut w next s)).0 h in
    let e : b ≡ x = eqb-true b x p.0 in
    ⊎_elim (λ q. inl (q.0, prefix_cons b x s w e q.1)) (λ q. inr (q.0, let r = q.1 in cc, q.2))
    (after_sound cut w next s p.1)

-- A string that passes `at_end` is empty.
at_end_sound : (r : List ℕ) → T (at_end r) → r ≡ []
at_end_sound [] h = refl
at_end_sound (b ∷ r) h = absurd h

-- A string that passes for a tail is all of it, or a prefix if it may be cut.
pub tail_sound : (cut : Bool) (k : Kind) (t : List ℕ) → T (after cut (tail k) at_end t)
    → (T cut × Prefix t (tail k)) ⊎ (t ≡ tail k)
tail_sound cut k t h = ⊎_elim inl
    (λ p. inr (p.1 ∙ ap (λ r. tail k ++ r) (at_end_sound p.0 p.2) ∙ append-nil (tail k)))
    (after_sound cut (tail k) at_end t h)

-- The test `in_range` passes exactly if the length is in range.
pub range_true : (limit n : ℕ) → in_range limit n ≡ true ↔ InRange limit n
range_true limit n = (
  λ e. let p = (and-eq-true_iff _ _).0 e in (leb-true 2 n p.0, leb-true n limit p.1),
  λ r. rw (le-leb 2 n r.0, le-leb n limit r.1),
)
