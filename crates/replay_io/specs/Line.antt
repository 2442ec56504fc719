-- The lines of the answers, as they gather in a buffer of 65,536 bytes. Quotations are from docs/REPLAY.md.
--   Gathered       a buffer, and how many of its bytes are taken
--   fresh          a buffer with nothing taken: zeros
--   place n        where the next byte goes: after the n that are taken, or to the front once a full buffer is written
--   put_byte g b    the buffer after the byte b was put; put_all g s, after the bytes s, one after another
--   spelled k v    the decimal digits of a number v that has at most k of them
--   decimal_of v    the decimal digits of a number of 64 bits, which has at most 20
--   numbers_of vs   "decimal numbers, one space between": a space and its digits, for each of the numbers vs
--   signed_text z   a space and the digits of a number that may be negative: "A number below 0 has a minus sign."
--   none_text       " none", after the op: "prints `op` and `none`"
--   line_feed       "a line feed after"
--   closing f      the line that ends the answers: "Input that ends inside a case prints `short` and stops; an `n`
--                  above 70,000 prints `long` and stops. Input that ends between two cases prints nothing more."
use Rattle.std.specs.Prelude.{List, [], ◌∷◌, ◌++◌, cond, ℕ, zero, suc, ◌+◌, ◌/◌, ◌%◌, ltb, ℤ, pos, negsuc, set, replicate}
use Rattle.io.specs.Digits.{hex_digit_ascii}
use Rattle.replay_io.specs.declared.input.Found.{Found}
use Rattle.replay_io.specs.declared.input.Found.TheVariants.{Case, Long, Short, End}

pub data Gathered : Type 0 where
  gathered : List ℕ → ℕ → Gathered

unfoldable pub fresh : Gathered
fresh = gathered (replicate 65536 0) 0

unfoldable pub place : ℕ → ℕ
place n = cond (ltb n 65536) n 0

unfoldable pub put_byte : Gathered → ℕ → Gathered
put_byte (gathered buffer n) b = gathered (set buffer (place n) b) (place n + 1)

unfoldable pub put_all : Gathered → List ℕ → Gathered
put_all g [] = g
put_all g (b ∷ s) = put_all (put_byte g b) s

abbrev pub spelled : ℕ → ℕ → List ℕ
spelled zero v = []
spelled (suc k) v = cond (ltb v 10) (hex_digit_ascii v ∷ []) (spelled k (v / 10) ++ (hex_digit_ascii (v % 10) ∷ []))

unfoldable pub decimal_of : ℕ → List ℕ
decimal_of v = spelled 20 v

unfoldable pub numbers_of : List ℕ → List ℕ
numbers_of [] = []
numbers_of (v ∷ vs) = 32 ∷ (decimal_of v ++ numbers_of vs)

unfoldable pub signed_text : ℤ → List ℕ
signed_text (pos n) = numbers_of (n ∷ [])
signed_text (negsuc n) = 32 ∷ 45 ∷ decimal_of (suc n)

abbrev pub none_text : List ℕ
none_text = 32 ∷ 110 ∷ 111 ∷ 110 ∷ 101 ∷ []

abbrev pub line_feed : List ℕ
line_feed = 10 ∷ []

abbrev pub closing : Found → List ℕ
closing Case = []
closing Long = 108 ∷ 111 ∷ 110 ∷ 103 ∷ 10 ∷ []
closing Short = 115 ∷ 104 ∷ 111 ∷ 114 ∷ 116 ∷ 10 ∷ []
closing End = []
