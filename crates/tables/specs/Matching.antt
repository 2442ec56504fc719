-- The two tables once more, by families and bytes instead of numbers.
--   Unmarked b      the byte b is in no header and in no tail
--   OneEach t       the list t gives each byte of a header or tail a class of its own, and one class to all others
--   header_whole k   the state after all four bytes of the header of the family k; tail_whole k, of its tail
--   first_state b    the state after the byte b, tried as the first of a header; first_as, by the family that it begins
--   Matching next   next s b, the state after the matching state s on the byte b, matches the headers and the tails
--   on_byte u        the state that the second table u gives after a matching state, by the class of a byte
use Rattle.std.specs.Prelude.{◌≡◌, List, [], ℕ, suc, ◌<◌, get_or, Some, None}
use Rattle.std.specs.declared.option.Option.{Option}
use Rattle.wire.specs.Family.{header, tail, starting_with}
use Rattle.wire.specs.declared.Kind.{Kind}
use Rattle.wire.specs.declared.Kind.TheVariants.{Report, Command}
use Rattle.tables.specs.Table.{class_of, header_state, tail_state}

pub record Unmarked (b : ℕ) : Type 0 where
  pub header_other : (k : Kind) (m : ℕ) → m < 4 → ¬ (b ≡ get_or (header k) m 0)
  pub tail_other : (k : Kind) (m : ℕ) → m < 4 → ¬ (b ≡ get_or (tail k) m 0)

-- "one for each byte of the two headers and two tails, one for all others"
pub record OneEach (t : List ℕ) : Type 0 where
  -- no other byte has the class of a byte of a header or tail
  pub alone : (a b : ℕ) → a < 256 → b < 256 → ¬ Unmarked a → get_or t a 0 ≡ get_or t b 0 → a ≡ b
  -- all others have the same
  pub others : (a b : ℕ) → a < 256 → b < 256 → Unmarked a → Unmarked b → get_or t a 0 ≡ get_or t b 0

abbrev pub header_whole : Kind → ℕ
header_whole Report = 16
header_whole Command = 20

abbrev pub tail_whole : Kind → ℕ
tail_whole Report = 24
tail_whole Command = 28

abbrev pub first_as : Option Kind → ℕ
first_as (Some k) = header_state k 1
first_as None = header_state Report 0

abbrev pub first_state : ℕ → ℕ
first_state b = first_as (starting_with b)

-- "the next state while a header or tail is matched"
pub record Matching (next : ℕ → ℕ → ℕ) : Type 0 where
  -- the byte that is due is matched, and with the fourth the header or tail is whole
  pub header_on : (k : Kind) (m : ℕ) → m < 3 → next (header_state k m) (get_or (header k) m 0) ≡ header_state k (suc m)
  pub tail_on : (k : Kind) (m : ℕ) → m < 3 → next (tail_state k m) (get_or (tail k) m 0) ≡ tail_state k (suc m)
  pub header_end : (k : Kind) → next (header_state k 3) (get_or (header k) 3 0) ≡ header_whole k
  pub tail_end : (k : Kind) → next (tail_state k 3) (get_or (tail k) 3 0) ≡ tail_whole k
  -- any other byte may begin a header, of either family
  pub header_broken : (k : Kind) (m b : ℕ) → m < 4 → b < 256 → ¬ (b ≡ get_or (header k) m 0)
      → next (header_state k m) b ≡ first_state b
  pub tail_broken : (k : Kind) (m b : ℕ) → m < 4 → b < 256 → ¬ (b ≡ get_or (tail k) m 0)
      → next (tail_state k m) b ≡ first_state b

abbrev pub on_byte : List (List ℕ) → ℕ → ℕ → ℕ
on_byte u s b = get_or (get_or u s []) (class_of b) 0
