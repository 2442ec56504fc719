-- The two frame families, report and command (family is document 01's word): their headers and tails.
--   header k, tail k   the four bytes that begin and end a frame of the family k
--   starting_with b     the family whose header starts with the byte b, if any
--   header_of s         the family whose header is s, if any
--   framed k d         the frame of the family k with the data d: header, length, data, tail
use Rattle.std.specs.Prelude.{List, [], ◌∷◌, ◌++◌, cond, ℕ, eqb, length, Some, None}
use Rattle.std.specs.declared.option.Option.{Option}
use Rattle.wire.specs.Equal.{same_bytes}
use Rattle.wire.specs.Number.{le_bytes}
use Rattle.wire.specs.declared.Kind.{Kind}
use Rattle.wire.specs.declared.Kind.TheVariants.{Report, Command}

-- "F4 F3 F2 F1 (report) or FD FC FB FA (command)"
abbrev pub header : Kind → List ℕ
header Report = 0xF4 ∷ 0xF3 ∷ 0xF2 ∷ 0xF1 ∷ []
header Command = 0xFD ∷ 0xFC ∷ 0xFB ∷ 0xFA ∷ []

-- "the tail, F8 F7 F6 F5 or 04 03 02 01"
abbrev pub tail : Kind → List ℕ
tail Report = 0xF8 ∷ 0xF7 ∷ 0xF6 ∷ 0xF5 ∷ []
tail Command = 0x04 ∷ 0x03 ∷ 0x02 ∷ 0x01 ∷ []

abbrev pub starting_with : ℕ → Option Kind
starting_with b = cond (eqb b 0xF4) (Some Report) (cond (eqb b 0xFD) (Some Command) None)

unfoldable pub header_of : List ℕ → Option Kind
header_of s =
    cond (same_bytes s (header Report)) (Some Report) (cond (same_bytes s (header Command)) (Some Command) None)

unfoldable pub framed : Kind → List ℕ → List ℕ
framed k d = header k ++ (le_bytes 2 (length d) ++ (d ++ tail k))
