-- A seed in decimal, as the program's argument has it.
--   with_digit v c   the number v with the digit c after it
--   is_taken v c     the character c is a digit, and the number v with it has at most 32 bits
--   seed_from v s    the number v with the digits s after it; 0 if a character is not taken
--   seed_of s        the seed that the text s is, 0 if it is none
--   SeedExamples    texts, and what they are read as
use Rattle.std.specs.Prelude.{◌≡◌, List, [], ◌∷◌, Bool, cond, ◌&&◌, ℕ, ◌+◌, ◌-◌, ◌*◌, leb}

abbrev pub with_digit : ℕ → ℕ → ℕ
with_digit v c = 10 * v + (c - 48)

abbrev pub is_taken : ℕ → ℕ → Bool
is_taken v c = leb 48 c && (leb c 57 && leb (with_digit v c) 4294967295)

abbrev pub seed_from : ℕ → List ℕ → ℕ
seed_from v [] = v
seed_from v (c ∷ s) = cond (is_taken v c) (seed_from (with_digit v c) s) 0

abbrev pub seed_of : List ℕ → ℕ
seed_of s = seed_from 0 s

pub record SeedExamples : Type 0 where
  -- 42
  pub short : seed_of (0x34 ∷ 0x32 ∷ []) ≡ 42
  -- 0042
  pub zeros_first : seed_of (0x30 ∷ 0x30 ∷ 0x34 ∷ 0x32 ∷ []) ≡ 42
  -- 1234567890
  pub all_digits : seed_of (0x31 ∷ 0x32 ∷ 0x33 ∷ 0x34 ∷ 0x35 ∷ 0x36 ∷ 0x37 ∷ 0x38 ∷ 0x39 ∷ 0x30 ∷ []) ≡ 1234567890
  -- 4294967295
  pub largest : seed_of (0x34 ∷ 0x32 ∷ 0x39 ∷ 0x34 ∷ 0x39 ∷ 0x36 ∷ 0x37 ∷ 0x32 ∷ 0x39 ∷ 0x35 ∷ []) ≡ 4294967295
  -- no seeds: 4294967296, 42x, /, :, -1, and no text
  pub too_large : seed_of (0x34 ∷ 0x32 ∷ 0x39 ∷ 0x34 ∷ 0x39 ∷ 0x36 ∷ 0x37 ∷ 0x32 ∷ 0x39 ∷ 0x36 ∷ []) ≡ 0
  pub letter : seed_of (0x34 ∷ 0x32 ∷ 0x78 ∷ []) ≡ 0
  pub slash : seed_of (0x2F ∷ []) ≡ 0
  pub colon : seed_of (0x3A ∷ []) ≡ 0
  pub minus : seed_of (0x2D ∷ 0x31 ∷ []) ≡ 0
  pub none : seed_of [] ≡ 0
