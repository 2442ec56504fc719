-- A test that passes at each number below a bound: one truth value, which is computed.
--   below f n   the test f passes at each number below n
use mathlib.Core.Path.{◌≡◌, refl}
use mathlib.Core.Bool.{Bool, true, false, ◌&&◌, and-eq-true_iff}
use Prim.Native.Nat.{ℕ, zero, suc, ◌<◌}
use native.Mathlib.Omega.{arith}
use lib.Dec.{eqb}
use borrow.Author.Tests.{eqb-true, eqb-false}

abbrev pub below : (ℕ → Bool) → ℕ → Bool
below f zero = true
below f (suc n) = f n && below f n

module _ (f : ℕ → Bool) where
  below_next : (n : ℕ) → below f (suc n) ≡ true → (k : ℕ) → (below f n ≡ true → k < n → f k ≡ true) → k < suc n
      → (x : Bool) → eqb k n ≡ x → f k ≡ true
  below_next n all k rest h true e = rw (eqb-true k n e) ((and-eq-true_iff (f n) (below f n)).0 all).0
  below_next n all k rest h false e =
      let other = eqb-false k n e in
      rest ((and-eq-true_iff (f n) (below f n)).0 all).1 (omega (arith, h, other))

  pub below_each : (n : ℕ) → below f n ≡ true → (k : ℕ) → k < n → f k ≡ true
  below_each zero all k h = absurd (omega (arith, h))
  below_each (suc n) all k h = below_next n all k (λ t l. below_each n t k l) h (eqb k n) refl
