-- Numbers on the wire: "Two- and four-byte numbers are little-endian."
--   little bs        the number that the bytes bs make, the least significant first
--   le_bytes n x      the n lowest bytes of the number x, the least significant first
--   number_at n s i   the number in the n bytes of s from place i on, if s has them all
--   byte_at, le16_at, le32_at   number_at of one, two and four bytes
use Rattle.std.specs.Prelude.{List, [], ◌∷◌, cond, ℕ, zero, suc, ◌+◌, ◌*◌, ◌/◌, ◌%◌, leb, length, take, drop, Some, None}
use Rattle.std.specs.declared.option.Option.{Option}

abbrev pub little : List ℕ → ℕ
little [] = 0
little (b ∷ bs) = b + 256 * little bs

abbrev pub le_bytes : ℕ → ℕ → List ℕ
le_bytes zero x = []
le_bytes (suc n) x = x % 256 ∷ le_bytes n (x / 256)

unfoldable pub number_at : ℕ → List ℕ → ℕ → Option ℕ
number_at n s i = cond (leb (i + n) (length s)) (Some (little (take n (drop i s)))) None

abbrev pub byte_at : List ℕ → ℕ → Option ℕ
byte_at = number_at 1

abbrev pub le16_at : List ℕ → ℕ → Option ℕ
le16_at = number_at 2

abbrev pub le32_at : List ℕ → ℕ → Option ℕ
le32_at = number_at 4
