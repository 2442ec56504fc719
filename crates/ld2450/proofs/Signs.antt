-- A two-byte number and the signed number that it says: each gives the other again, except that 0 is written 8000.
use mathlib.Core.Path.{◌≡◌, refl, ap, ◌∙◌}
use mathlib.Core.Bool.{Bool, true, false, cond}
use Prim.Native.Nat.{ℕ, zero, suc, ◌+◌, ◌%◌, ◌≤◌, ◌<◌}
use native.Mathlib.Omega.{arith}
use lib.Dec.{leb}
use lib.IntN.{ℤ, pos, negsuc, neg_ℤ}
use lib.Signed.{mag}
use borrow.Author.Tests.{leb-true, leb-false, le-leb, lt-leb}
use Rattle.ld2450.specs.Signed.{signed_of, sayable, raw_of}

-- What n says, by its top bit.
pub said_plus : (n : ℕ) → 32768 ≤ n → signed_of n ≡ pos (n % 32768)
unfolding signed_of
said_plus n h = rw (le-leb 32768 n h)

pub said_minus : (n : ℕ) → n < 32768 → signed_of n ≡ neg_ℤ (pos (n % 32768))
unfolding signed_of
said_minus n h = rw (lt-leb 32768 n h)

-- Every number that two bytes say can be written.
negated_sayable : (n : ℕ) → n < 32768 → sayable (neg_ℤ (pos n)) ≡ true
negated_sayable zero h = refl
negated_sayable (suc n) h = le-leb (suc n) 32767 (omega arith)

by_sign_sayable : (b : Bool) (n : ℕ) → n < 32768 → sayable (cond b (pos n) (neg_ℤ (pos n))) ≡ true
by_sign_sayable true n h = refl
by_sign_sayable false n h = negated_sayable n h

pub said_sayable : (n : ℕ) → sayable (signed_of n) ≡ true
unfolding signed_of
said_sayable n = by_sign_sayable (leb 32768 n) (n % 32768) (omega arith)

-- The raw number of a sixteen-bit number other than -32,768 has two bytes, is not 0, and says the number.
pub record Raw (z : ℤ) : Type 0 where
  pub wide : raw_of z < 65536
  pub some : raw_of z ≡ 0 → ⊥
  pub again : signed_of (raw_of z) ≡ z

pub raw : (z : ℤ) → mag z < 32768 → sayable z ≡ true → Raw z
raw (pos n) h s =
    let low : (32768 + n) % 32768 ≡ n = omega arith in
    record {
      wide = omega arith;
      some = λ e. omega arith;
      again = said_plus (32768 + n) (omega arith) ∙ ap pos low;
    }
raw (negsuc n) h s =
    let l = leb-true (suc n) 32767 s in
    let low : suc n % 32768 ≡ suc n = omega arith in
    record {
      wide = omega arith;
      some = λ e. omega arith;
      again = said_minus (suc n) (omega arith) ∙ ap (λ m. neg_ℤ (pos m)) low;
    }

-- A two-byte number other than 0 is the raw number of what it says.
raw_negated : (n : ℕ) → (n ≡ 0 → ⊥) → raw_of (neg_ℤ (pos n)) ≡ n
raw_negated zero h = absurd (h refl)
raw_negated (suc n) h = refl

by_sign_again : (n : ℕ) (b : Bool) → leb 32768 n ≡ b → n < 65536 → (n ≡ 0 → ⊥)
    → raw_of (cond b (pos (n % 32768)) (neg_ℤ (pos (n % 32768)))) ≡ n
by_sign_again n true q w h = let l = leb-true 32768 n q in omega arith
by_sign_again n false q w h =
    let l = leb-false 32768 n q in
    let low : n % 32768 ≡ n = omega arith in
    rw low (raw_negated n h)

pub said_raw : (n : ℕ) → n < 65536 → (n ≡ 0 → ⊥) → raw_of (signed_of n) ≡ n
unfolding signed_of
said_raw n w h = by_sign_again n (leb 32768 n) refl w h
