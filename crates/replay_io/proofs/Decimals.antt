-- Decimal digits: the fewest that hold a number are those of its text.
use mathlib.Core.Path.{◌≡◌}
use mathlib.Core.List.{[], ◌∷◌}
use Prim.Native.Nat.{ℕ, zero, suc, ◌+◌, ◌-◌, ◌/◌, ◌^◌, ◌≤◌, ◌<◌}
use native.Mathlib.Omega.{arith}
use native.Mathlib.Nat.{div-lt_iff_lt-mul, le-div_iff_mul-le, mod-eq_of_lt, pow-suc}
use borrow.Author.Tests.{lt-ltb, le-ltb}
use Rattle.io.specs.Digits.{last_digits, IsDigitCount}
use Rattle.replay_io.specs.Line.{spelled, decimal_of}
use Rattle.replay_io.proofs.Puts.{put_one}

pub decimal_one : (v : ℕ) → v < 10 → decimal_of v ≡ (48 + v) ∷ []
unfolding decimal_of
decimal_one v h = rw (lt-ltb v 10 h)

-- A number with r + 2 digits is at least 10 ^ (r + 1).
least : (v r : ℕ) → IsDigitCount 10 1 v (suc (suc r)) → 10 ^ suc r ≤ v
least v r f = let e : suc (suc r) - 1 ≡ suc r = omega arith in rw e at (f.2 (omega arith))

-- A tenth of a number has one digit less.
tenth_below : (v r : ℕ) → v < 10 ^ suc (suc r) → v / 10 < 10 ^ suc r
tenth_below v r h =
    (div-lt_iff_lt-mul {k = 10} {x = v} {y = 10 ^ suc r} (omega arith)).1 (rw (pow-suc 10 (suc r)) at h)

fewest_tenth : (v r : ℕ) → IsDigitCount 10 1 v (suc (suc r)) → IsDigitCount 10 1 (v / 10) (suc r)
fewest_tenth v r f =
    let e : suc r - 1 ≡ r = omega arith in
    let above = rw (pow-suc 10 r) at (least v r f) in (
      omega arith,
      tenth_below v r f.1,
      λ q. rw e ((le-div_iff_mul-le {k = 10} {x = 10 ^ r} {y = v} (omega arith)).1 above),
    )

ten_up : (r : ℕ) → 10 ≤ 10 ^ suc r
ten_up zero = omega arith
ten_up (suc r) = let h = ten_up r in rw (pow-suc 10 (suc r)) (omega arith)

-- The digits of a number with two or more: those of its tenth, then the last.
spelled_more : (k r v : ℕ) → IsDigitCount 10 1 v (suc (suc r)) → last_digits 10 (suc r) (v / 10) ≡ spelled k (v / 10)
    → last_digits 10 (suc (suc r)) v ≡ spelled (suc k) v
spelled_more k r v f e =
    let low = least v r f in
    let b : 10 ≤ v = omega (arith, ten_up r) in
    rw (le-ltb v 10 b, e)

digits_spelled : (k r v : ℕ) → IsDigitCount 10 1 v r → v < 10 ^ suc k → last_digits 10 r v ≡ spelled (suc k) v
digits_spelled k zero v f h = absurd (omega arith)
digits_spelled k (suc zero) v f h = let b : v < 10 = f.1 in rw (mod-eq_of_lt b, lt-ltb v 10 b)
digits_spelled zero (suc (suc r)) v f h = let low = least v r f in absurd (omega (arith, ten_up r))
digits_spelled (suc k) (suc (suc r)) v f h =
    spelled_more (suc k) r v f (digits_spelled k (suc r) (v / 10) (fewest_tenth v r f) (tenth_below v k h))

pub digits_decimal : (v r : ℕ) → v < 18446744073709551616 → IsDigitCount 10 1 v r → last_digits 10 r v ≡ decimal_of v
unfolding decimal_of
digits_decimal v r h f = let b : v < 10 ^ 20 = omega arith in digits_spelled 19 r v f b

-- The digits of a number are put: the one that it has, or all.
pub ruleset digits_put = (put_one, decimal_one, digits_decimal)
