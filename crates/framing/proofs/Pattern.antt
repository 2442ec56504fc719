-- Patterns of given bytes and of places for any byte: which strings fill them, and that every beginning of a frame
-- can be completed.
--   given h   a place for each of the bytes h
--   any n     n places for any byte
use mathlib.Core.Path.{◌≡◌, refl, ap}
use mathlib.Core.List.{List, [], ◌∷◌, ◌++◌, map}
use mathlib.Core.Bool.{true}
use mathlib.Core.Option.{Option, none, some}
use Prim.Native.Nat.{ℕ, zero, suc}
use native.Mathlib.Omega.{arith}
use lib.Dec.{T, eqb}
use lib.ListN.{length, replicate}
use borrow.Author.Tests.{eq-eqb, eqb-true}
use Rattle.framing.proofs.Tests.{T_and}
use Rattle.framing.proofs.Fixed.{agrees, begins, fills}

abbrev pub given : List ℕ → List (Option ℕ)
given h = map some h

abbrev pub any : ℕ → List (Option ℕ)
any n = replicate n none

pub fills_given : (h : List ℕ) (xs : List (Option ℕ)) (t : List ℕ) → T (fills xs t) → T (fills (given h ++ xs) (h ++ t))
fills_given [] xs t f = f
fills_given (b ∷ h) xs t f =
    (T_and (eqb b b) (fills (given h ++ xs) (h ++ t))).1 (eq-eqb b b refl, fills_given h xs t f)

pub fills_any : (n : ℕ) (d : List ℕ) (xs : List (Option ℕ)) (t : List ℕ) → length d ≡ n → T (fills xs t)
    → T (fills (any n ++ xs) (d ++ t))
fills_any zero [] xs t l f = f
fills_any zero (b ∷ d) xs t l f = absurd (omega arith)
fills_any (suc n) [] xs t l f = absurd (omega arith)
fills_any (suc n) (b ∷ d) xs t l f = fills_any n d xs t (omega arith) f

-- Conversely, a string that fills the pattern begins with the given bytes, or with n bytes for n places.
pub record After (h : List ℕ) (xs : List (Option ℕ)) (s : List ℕ) : Type 0 where
  pub rest : List ℕ
  pub spelled : s ≡ h ++ rest
  pub filled : T (fills xs rest)

pub given_filled : (h : List ℕ) (xs : List (Option ℕ)) (s : List ℕ) → T (fills (given h ++ xs) s) → After h xs s
given_filled [] xs s f = record { rest = s; spelled = refl; filled = f }
given_filled (b ∷ h) xs [] f = absurd f
given_filled (b ∷ h) xs (c ∷ s) f =
    let p = (T_and (eqb b c) (fills (given h ++ xs) s)).0 f in
    let q : b ≡ c = eqb-true b c p.0 in
    let x = given_filled h xs s p.1 in
    let e = x.spelled in
    record { rest = x.rest; spelled = cc; filled = x.filled }

pub any_filled : (n : ℕ) (xs : List (Option ℕ)) (s : List ℕ) → T (fills (any n ++ xs) s)
    → (d : List ℕ) × (length d ≡ n) × After d xs s
any_filled zero xs s f = ([], refl, record { rest = s; spelled = refl; filled = f })
any_filled (suc n) xs [] f = absurd f
any_filled (suc n) xs (b ∷ s) f =
    let x = any_filled n xs s f in
    let after = x.2 in (
      b ∷ x.0,
      ap suc x.1,
      record { rest = after.rest; spelled = ap (λ (l : List ℕ). b ∷ l) after.spelled; filled = after.filled },
    )

pub fills_nil : (s : List ℕ) → T (fills [] s) → s ≡ []
fills_nil [] f = refl
fills_nil (b ∷ s) f = absurd f

-- What a place is completed with: its byte, or 0.
abbrev blank : Option ℕ → ℕ
blank none = 0
blank (some b) = b

blank_agrees : (x : Option ℕ) → agrees x (blank x) ≡ true
blank_agrees none = refl
blank_agrees (some b) = eq-eqb b b refl

blank_fills : (xs : List (Option ℕ)) → T (fills xs (map blank xs))
blank_fills [] = tt
blank_fills (x ∷ xs) = (T_and (agrees x (blank x)) (fills xs (map blank xs))).1 (blank_agrees x, blank_fills xs)

pub begins_completed : (xs : List (Option ℕ)) (s : List ℕ) → T (begins xs s) → (r : List ℕ) × T (fills xs (s ++ r))
begins_completed xs [] h = (map blank xs, blank_fills xs)
begins_completed [] (b ∷ s) h = absurd h
begins_completed (x ∷ xs) (b ∷ s) h =
    let p = (T_and (agrees x b) (begins xs s)).0 h in
    let more = begins_completed xs s p.1 in
    (more.0, (T_and (agrees x b) (fills xs (s ++ more.0))).1 (p.0, more.1))
