-- Signed numbers of two bytes: request 6.
--   signed_of n   the signed number that the two-byte number n says
--   sayable z    whether two bytes can say the sixteen-bit number z: any but -32,768
--   raw_of z      the two-byte number that is written for z in a present target
use Rattle.std.specs.Prelude.{Bool, true, cond, ℕ, suc, ◌+◌, ◌%◌, leb, ℤ, pos, negsuc, neg_ℤ}

-- "top bit set means the low 15 bits, top bit clear means minus those bits"
unfoldable pub signed_of : ℕ → ℤ
signed_of n = cond (leb 0x8000 n) (pos (n % 0x8000)) (neg_ℤ (pos (n % 0x8000)))

abbrev pub sayable : ℤ → Bool
sayable (pos n) = true
sayable (negsuc n) = leb (suc n) 0x7FFF

-- "zero of a present target as 00 80 in the signed fields"
abbrev pub raw_of : ℤ → ℕ
raw_of (pos n) = 0x8000 + n
raw_of (negsuc n) = suc n
