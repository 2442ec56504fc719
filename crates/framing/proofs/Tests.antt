-- Framings that are given by tests, and laws of tests.
--   Tests        a test for open strings and one for whole frames, with the laws of a framing
--   framing_of X  the framing whose strings pass the tests X
use mathlib.Core.Path.{◌≡◌, refl}
use mathlib.Core.Logic.{◌↔◌}
use mathlib.Core.List.{List}
use mathlib.Core.Bool.{Bool, true, false, ◌&&◌, false≢true}
use Prim.Native.Nat.{ℕ}
use lib.Dec.{T}
use Rattle.framing.proofs.Framing.{Laws, Framing}

-- Every test is a decision.
abbrev pub T? : (b : Bool) → Dec (T b)
T? true = yes tt
T? false = no (λ x. x)

-- A test that agrees with X decides it.
abbrev pub by_test : {X : Type 0} (b : Bool) → (b ≡ true → X) → (b ≡ false → ¬ X) → Dec X
by_test true is not = yes (is refl)
by_test false is not = no (not refl)

-- Two tests pass together exactly if the first is true and the second passes.
pub T_and : (a b : Bool) → T (a && b) ↔ (a ≡ true) × T b
T_and true b = (λ h. (refl, h), λ p. p.1)
T_and false b = (λ h. absurd h, λ p. absurd (false≢true p.0))

pub record Tests : Type 0 where
  pub opens : List ℕ → Bool
  pub wholes : List ℕ → Bool
  pub laws : Laws (λ s. T (opens s)) (λ s. T (wholes s))

abbrev pub framing_of : Tests → Framing
framing_of X = record {
  Open = λ s. T (X.opens s);
  Whole = λ s. T (X.wholes s);
  open? = λ s. T? (X.opens s);
  whole? = λ s. T? (X.wholes s);
  laws = X.laws;
}
