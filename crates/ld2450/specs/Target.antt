-- A target, read from its eight bytes: request 6.
--   absent        no target: every field 0
--   field_at b i   the two-byte number at place i of the bytes b
--   present_of b   the present target with the fields in the bytes b
--   target_of b    the target that the eight bytes b say
--   three_of d     the three targets that the 24 bytes d say
use Rattle.std.specs.Prelude.{List, [], ◌∷◌, true, false, cond, ℕ, take, drop, replicate, pos}
use Rattle.wire.specs.Equal.{same_bytes}
use Rattle.wire.specs.Number.{little}
use Rattle.ld2450.specs.Signed.{signed_of}
use Rattle.ld2450.specs.declared.targets.Target.{Target}

abbrev pub absent : Target
absent = record { present = false; x = pos 0; y = pos 0; speed = pos 0; resolution = 0 }

abbrev pub field_at : List ℕ → ℕ → ℕ
field_at b i = little (take 2 (drop i b))

-- "A target is x, y (millimetres), speed (cm/s) and resolution (millimetres), two bytes each, little-endian. The first
-- three are signed"
abbrev pub present_of : List ℕ → Target
present_of b = record {
  present = true;
  x = signed_of (field_at b 0);
  y = signed_of (field_at b 2);
  speed = signed_of (field_at b 4);
  resolution = field_at b 6;
}

-- "Eight zero bytes mean no target, with all fields 0."
unfoldable pub target_of : List ℕ → Target
target_of b = cond (same_bytes b (replicate 8 0)) absent (present_of b)

-- "three targets of eight bytes"
abbrev pub three_of : List ℕ → List Target
three_of d = target_of (take 8 d) ∷ target_of (take 8 (drop 8 d)) ∷ target_of (take 8 (drop 16 d)) ∷ []
