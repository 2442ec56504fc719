-- Draws are linear over bits, so a sum of their bits that is even from each power of two is even from every number.
-- Such a sum of eleven bits shows that pieces of one byte never write the header of a frame.
--   Additive f     f of the xor of two numbers has the parity of the sum of both
--   bits bs x      the sum of x shifted right by each of the places bs: it has the parity of the sum of the bits there
--   seen ts x      the low bits of the draws from the number x, as many of each as ts tells
--   tapped ts cs   the sum of the bits of cs at the places that ts tells
--   units f n      at how many of the first n powers of two f is odd
--   taps           the eleven bits: of each of seven draws how many low bits are seen, and the places among these
use mathlib.Core.Path.{◌≡◌, refl, sym, ap, ◌∙◌}
use mathlib.Core.List.{List, [], ◌∷◌}
use mathlib.Core.Bool.{Bool, true, false}
use Prim.Native.Nat.{ℕ, zero, suc, ◌+◌, ◌-◌, ◌*◌, ◌/◌, ◌%◌, ◌^◌, ◌≤◌, ◌<◌}
use native.Mathlib.Nat.{mod-lt, add-zero, one-mul, pow-suc}
use native.Mathlib.Omega.{arith}
use lib.Dec.{ltb}
use lib.Bits.{bit_xor, xor_lt, xor_block, xor_shr, xor_mod, xor_shifted, xor_add_and}
use lib.Pow.{pow_pos, shr_le}
use borrow.Author.Tests.{ltb-true, ltb-false}
use Rattle.load_writer.specs.Draw.{xor_left, xor_right, draw_of}
use Rattle.load_writer.specs.Load.{after}

-- A draw has 32 bits.
left_bound : (k x : ℕ) → x < 2 ^ 32 → xor_left k x < 2 ^ 32
left_bound k x h = xor_lt 32 x (x * 2 ^ k % 2 ^ 32) h (mod-lt (x * 2 ^ k) (pow_pos 32))

right_bound : (k x : ℕ) → x < 2 ^ 32 → xor_right k x < 2 ^ 32
right_bound k x h = xor_lt 32 x (x / 2 ^ k) h (omega (arith, shr_le x k))

pub draw_bound : (x : ℕ) → x < 2 ^ 32 → draw_of x < 2 ^ 32
unfolding draw_of
draw_bound x h = left_bound 5 _ (right_bound 17 _ (left_bound 13 x h))

record Additive (f : ℕ → ℕ) : Type 0 where
  adds : (a b : ℕ) → f (bit_xor a b) % 2 ≡ (f a + f b) % 2

-- Parities of two sums agree where those of their parts do.
plus : (a b c d : ℕ) → a % 2 ≡ b % 2 → c % 2 ≡ d % 2 → (a + c) % 2 ≡ (b + d) % 2
plus a b c d p q = omega arith

-- Shifts pass through xor.
shl : (k a b : ℕ) → bit_xor a b * 2 ^ k % 2 ^ 32 ≡ bit_xor (a * 2 ^ k % 2 ^ 32) (b * 2 ^ k % 2 ^ 32)
shl k a b =
    let e = xor_block k a b 0 0 (pow_pos k) (pow_pos k) in
    let s : bit_xor (a * 2 ^ k) (b * 2 ^ k) ≡ bit_xor a b * 2 ^ k = simp add-zero at e in
    rw (← s) (xor_mod (a * 2 ^ k) (b * 2 ^ k) 32)

module _ {f : ℕ → ℕ} (h : Additive f) where
  shifted : (s : ℕ → ℕ) → ((a b : ℕ) → s (bit_xor a b) ≡ bit_xor (s a) (s b)) → Additive (λ x. f (bit_xor x (s x)))
  shifted s e = record {
    adds = λ a b.
        let t = h.adds (bit_xor a b) (s (bit_xor a b)) in
        let u = plus _ _ _ _ (h.adds a b) (ap (λ (n : ℕ). f n % 2) (e a b) ∙ h.adds (s a) (s b)) in
        let v = plus _ _ _ _ (h.adds a (s a)) (h.adds b (s b)) in
        t ∙ u ∙ ap (λ (n : ℕ). n % 2) (omega arith) ∙ sym v;
  }

  left_additive : (k : ℕ) → Additive (λ x. f (xor_left k x))
  left_additive k = shifted (λ x. x * 2 ^ k % 2 ^ 32) (shl k)

  right_additive : (k : ℕ) → Additive (λ x. f (xor_right k x))
  right_additive k = shifted (λ x. x / 2 ^ k) (λ a b. xor_shr a b k)

  low_additive : (k : ℕ) → Additive (λ x. f (x % 2 ^ k))
  low_additive k = record { adds = λ a b. rw (xor_mod a b k) (h.adds (a % 2 ^ k) (b % 2 ^ k)) }

draw_additive : {f : ℕ → ℕ} → Additive f → Additive (λ x. f (draw_of x))
unfolding draw_of
draw_additive h = left_additive (right_additive (left_additive h 5) 17) 13

abbrev bits : List ℕ → ℕ → ℕ
bits [] x = 0
bits (b ∷ bs) x = x / 2 ^ b + bits bs x

bits_additive : (bs : List ℕ) → Additive (bits bs)
bits_additive [] = record { adds = λ a b. refl }
bits_additive (k ∷ bs) =
    let h = bits_additive bs in
    record { adds = λ a b. omega (arith, xor_shr a b k, xor_add_and (a / 2 ^ k) (b / 2 ^ k), h.adds a b) }

abbrev seen : List (ℕ × List ℕ) → ℕ → List ℕ
seen [] x = []
seen (t ∷ ts) x = draw_of x % 2 ^ t.0 ∷ seen ts (draw_of x)

abbrev tapped : List (ℕ × List ℕ) → List ℕ → ℕ
tapped [] cs = 0
tapped (t ∷ ts) [] = 0
tapped (t ∷ ts) (c ∷ cs) = bits t.1 c + tapped ts cs

tapped_additive : (ts : List (ℕ × List ℕ)) → Additive (λ x. tapped ts (seen ts x))
tapped_additive [] = record { adds = λ a b. refl }
tapped_additive (t ∷ ts) =
    let g = draw_additive (low_additive (bits_additive t.1) t.0) in
    let h = draw_additive (tapped_additive ts) in
    record { adds = λ a b. omega (arith, g.adds a b, h.adds a b) }

-- Every number is the xor of powers of two.
abbrev units : (ℕ → ℕ) → ℕ → ℕ
units f zero = 0
units f (suc n) = f (2 ^ n) % 2 + units f n

basis : {f : ℕ → ℕ} → Additive f → (n x : ℕ) → units f n ≡ 0 → x < 2 ^ n → f x % 2 ≡ 0
basis h zero x e l = let z : x ≡ 0 = omega arith in rw z (omega (arith, h.adds 0 0))
basis {f} h (suc n) x e l = go (basis h n) (ltb x (2 ^ n)) refl
  where
    go : ((y : ℕ) → units f n ≡ 0 → y < 2 ^ n → f y % 2 ≡ 0) → (b : Bool) → ltb x (2 ^ n) ≡ b → f x % 2 ≡ 0
    go rest true q = rest x (omega arith) (ltb-true _ _ q)
    go rest false q =
        let m : 2 ^ n ≤ x = ltb-false _ _ q in
        let r : x - 2 ^ n < 2 ^ n = omega (arith, pow-suc 2 n) in
        let s : bit_xor (2 ^ n) (x - 2 ^ n) ≡ x = omega (arith, rw one-mul at (xor_shifted 1 n (x - 2 ^ n) r)) in
        rw (← s) (omega (arith, h.adds (2 ^ n) (x - 2 ^ n), rest (x - 2 ^ n) (omega arith) r))

abbrev taps : List (ℕ × List ℕ)
taps = (2, 0 ∷ 1 ∷ []) ∷ (8, 0 ∷ 3 ∷ 5 ∷ []) ∷ (2, 1 ∷ []) ∷ (8, 4 ∷ 5 ∷ []) ∷ (2, 1 ∷ []) ∷ (8, 2 ∷ []) ∷ (2, 0 ∷ [])
    ∷ []

taps_even : (x : ℕ) → x < 2 ^ 32 → tapped taps (seen taps x) % 2 ≡ 0
unfolding draw_of
taps_even x h = basis (tapped_additive taps) 32 x refl h

-- No piece of one byte comes after three that write u, v and w. The number x is the one before the first.
abbrev pub NoHeader : ℕ → ℕ → ℕ → Type 0
NoHeader u v w = (x : ℕ) → x < 2 ^ 32
    → after 1 x % 4 ≡ 0 → after 2 x % 256 ≡ u
    → after 3 x % 4 ≡ 0 → after 4 x % 256 ≡ v
    → after 5 x % 4 ≡ 0 → after 6 x % 256 ≡ w
    → after 7 x % 4 ≡ 0 → ⊥

no_header : (u v w : ℕ) → tapped taps (0 ∷ u ∷ 0 ∷ v ∷ 0 ∷ w ∷ 0 ∷ []) % 2 ≡ 1 → NoHeader u v w
no_header u v w odd x h p₁ p₂ p₃ p₄ p₅ p₆ p₇ =
    let even = rw (p₁, p₂, p₃, p₄, p₅, p₆, p₇) at (taps_even x h) in omega (arith, odd, even)

-- So neither F4 F3 F2 F1 nor FD FC FB FA is written by four pieces of one byte.
pub no_report_header : NoHeader 0xF4 0xF3 0xF2
no_report_header = no_header 0xF4 0xF3 0xF2 refl

pub no_command_header : NoHeader 0xFD 0xFC 0xFB
no_command_header = no_header 0xFD 0xFC 0xFB refl
