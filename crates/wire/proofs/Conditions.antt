-- A truth value chooses one of two answers: a result that differs from one of them shows the truth value. That two
-- answers differ is stated by 0 ≡ 1, which `cc` proves of two constructors.
use mathlib.Core.Path.{◌≡◌, refl, sym, ◌∙◌}
use mathlib.Core.Bool.{Bool, true, false, cond}
use Prim.Native.Nat.{ℕ}
use native.Mathlib.Omega.{arith}

abbrev Differ : {A : Type 0} → A → A → Type 0
Differ x y = x ≡ y → ◌≡◌ {A = ℕ} 0 1

pub cond-true : {A : Type 0} (t : Bool) (x y : A) {z : A} → cond t x y ≡ z → Differ y z → t ≡ true
cond-true true x y e h = refl
cond-true false x y e h = let z = h e in absurd (omega arith)

pub cond-false : {A : Type 0} (t : Bool) (x y : A) {z : A} → cond t x y ≡ z → Differ x z → t ≡ false
cond-false true x y e h = let z = h e in absurd (omega arith)
cond-false false x y e h = refl

-- For the search in a need, which finds the code's answer o: it is x by the contract, and y by the test.
pub answer_told : {A : Type 0} (x y o : A) → o ≡ x → o ≡ y → x ≡ y
answer_told x y o e q = sym e ∙ q
