-- What the two tables of the table engine hold (table engine and class are document 02's words, matching state is
-- document 01's).
--   marks             the bytes of the two headers and the two tails
--   place_in xs x      how many elements of the list xs come before the first x, all of them if there is none
--   class_of b         the class of the byte b
--   header_state k m   the matching state after m bytes of the header of the family k
--   tail_state k m     the matching state after m bytes of its tail
--   first_next c         the state after a byte of class c that is tried as the first of a header
--   next_of s c        the state after the matching state s on a byte of class c
--   Classes t         the list t is the table of the classes
--   Nexts u           the list of rows u is the table of the next states
use Rattle.std.specs.Prelude.{◌≡◌, List, [], ◌∷◌, ◌++◌, cond, ℕ, suc, ◌+◌, ◌<◌, ◌%◌, eqb, get_or}
use Rattle.wire.specs.Family.{header, tail}
use Rattle.wire.specs.declared.Kind.{Kind}
use Rattle.wire.specs.declared.Kind.TheVariants.{Report, Command}

-- "each byte of the two headers and two tails"
abbrev pub marks : List ℕ
marks = header Report ++ (header Command ++ (tail Report ++ tail Command))

abbrev pub place_in : List ℕ → ℕ → ℕ
place_in [] x = 0
place_in (y ∷ ys) x = cond (eqb y x) 0 (suc (place_in ys x))

-- "gives each byte its class": the place of a mark, 0 to 15, and 16 for all others
unfoldable pub class_of : ℕ → ℕ
class_of b = place_in marks b

-- Four matching states for each header and tail, so that the byte that is due in a state has the state's number as its
-- class.
abbrev pub header_state : Kind → ℕ → ℕ
header_state Report m = m
header_state Command m = 4 + m

abbrev pub tail_state : Kind → ℕ → ℕ
tail_state Report m = 8 + m
tail_state Command m = 12 + m

abbrev pub first_next : ℕ → ℕ
first_next c = cond (eqb c 0) 1 (cond (eqb c 4) 5 0)

-- "the next state while a header or tail is matched": the byte that is due leads to the next number. The fourth makes
-- its header or tail whole, and leads to 16 or 20 after a header, to 24 or 28 after a tail. Any other byte is tried as
-- the first of a header.
abbrev pub next_of : ℕ → ℕ → ℕ
next_of s c = cond (eqb c s) (cond (eqb (s % 4) 3) (s + 13) (s + 1)) (first_next c)

-- "A table of 256 entries gives each byte its class"
pub record Classes (t : List ℕ) : Type 0 where
  pub class : (b : ℕ) → b < 256 → get_or t b 0 ≡ class_of b

-- "A second table, by state and class, gives the next state"
pub record Nexts (u : List (List ℕ)) : Type 0 where
  pub next : (s c : ℕ) → s < 16 → c < 17 → get_or (get_or u s []) c 0 ≡ next_of s c
