-- The checks R1 to R8 of report data, in document 01's order, and the answer of a reader that makes the first five.
--   r1, r2, r3, r4, r5, r6, r7, r8   the tests of the checks R1 to R8 on data
--   known_type t, nothing_after t b, block_fits t b   R6 to R8, of the type t and the bytes b after the basic ones
--   report_checks      R1 to R8, in this order
--   layout_checks      R1 to R5, in this order
--   checked_layout s   the reader's answer to the data s, by R1 to R5
use Rattle.std.specs.Prelude.{List, [], ◌∷◌, Bool, not, ◌||◌, ℕ, ◌-◌, leb, eqb, length, get_or, drop}
use Rattle.std.specs.declared.result.Result.{Result}
use Rattle.wire.specs.Equal.{same_bytes}
use Rattle.refusal.specs.Check.{Checks, checked_by}
use Rattle.refusal.specs.declared.Check.{Check}
use Rattle.refusal.specs.declared.Check.TheVariants.{R1, R2, R3, R4, R5, R6, R7, R8}
use Rattle.engineering.specs.Gates.{gates_fit}
use Rattle.report.specs.Layout.{data_type_in, body, block, is_engineering, layout_of}
use Rattle.report.specs.declared.layout.Layout.{Layout}

-- "R1 two bytes present; R2 second is AA; R3 at least two more; R4 last two are 55 00; R5 nine basic bytes"
abbrev pub r1 : List ℕ → Bool
r1 s = leb 2 (length s)

abbrev pub r2 : List ℕ → Bool
r2 s = eqb (get_or s 1 0) 0xAA

abbrev pub r3 : List ℕ → Bool
r3 s = leb 4 (length s)

abbrev pub r4 : List ℕ → Bool
r4 s = same_bytes (drop (length s - 2) s) (0x55 ∷ 0x00 ∷ [])

abbrev pub r5 : List ℕ → Bool
r5 s = leb 9 (length (body s))

-- "R6 `data_type` is 01 or 02 (else refusal 2); R7 for 02, nothing after the nine; R8 for 01, the block fits"
abbrev pub known_type : ℕ → Bool
known_type t = is_engineering t || eqb t 0x02

abbrev pub nothing_after : ℕ → List ℕ → Bool
nothing_after t b = not (eqb t 0x02) || eqb (length b) 0

abbrev pub block_fits : ℕ → List ℕ → Bool
block_fits t b = not (is_engineering t) || gates_fit b

abbrev pub r6 : List ℕ → Bool
r6 s = known_type (data_type_in s)

abbrev pub r7 : List ℕ → Bool
r7 s = nothing_after (data_type_in s) (block s)

abbrev pub r8 : List ℕ → Bool
r8 s = block_fits (data_type_in s) (block s)

abbrev pub report_checks : Checks
report_checks = (R1, r1) ∷ (R2, r2) ∷ (R3, r3) ∷ (R4, r4) ∷ (R5, r5) ∷ (R6, r6) ∷ (R7, r7) ∷ (R8, r8) ∷ []

abbrev pub layout_checks : Checks
layout_checks = (R1, r1) ∷ (R2, r2) ∷ (R3, r3) ∷ (R4, r4) ∷ (R5, r5) ∷ []

unfoldable pub checked_layout : List ℕ → Result Layout Check
checked_layout s = checked_by layout_checks s (layout_of s)
