-- The frame of a command: "header, length, word, value, tail".
--   record_bytes k v   a record: its number k in two bytes, and its value v in four
--   value_parts v      the parts of a value: none, a two-byte number, or three records numbered 0, 1, 2
--   value_bytes v      the bytes of a value
--   data_with w v      the data of a frame: the word w, then the value v; frame_with w v is the frame
--   size_with v        the size of a frame with the value v
--   parts w v          what is put for the frame, in turn
use Rattle.std.specs.Prelude.{List, [], ◌∷◌, ◌++◌, ℕ, ◌+◌, length}
use Rattle.wire.specs.Number.{le_bytes}
use Rattle.wire.specs.Family.{header, tail, framed}
use Rattle.wire.specs.declared.Kind.TheVariants.{Command}
use Rattle.cursor.specs.Parts.{joined}
use Rattle.cursor.specs.declared.command_frame.Value.{Value}
use Rattle.cursor.specs.declared.command_frame.Value.TheVariants as Of

abbrev pub record_bytes : ℕ → ℕ → List ℕ
record_bytes k v = le_bytes 2 k ++ le_bytes 4 v

abbrev pub value_parts : Value → List (List ℕ)
value_parts Of.None = []
value_parts (Of.Number v) = le_bytes 2 v ∷ []
value_parts (Of.Records a b c) = record_bytes 0 a ∷ record_bytes 1 b ∷ record_bytes 2 c ∷ []

abbrev pub value_bytes : Value → List ℕ
value_bytes v = joined (value_parts v)

unfoldable pub data_with : ℕ → Value → List ℕ
data_with w v = le_bytes 2 w ++ value_bytes v

abbrev pub frame_with : ℕ → Value → List ℕ
frame_with w v = framed Command (data_with w v)

-- "12, 14 or 30 bytes": "No value", "Two-byte value", "Three records"
abbrev pub size_with : Value → ℕ
size_with Of.None = 12
size_with (Of.Number v) = 14
size_with (Of.Records a b c) = 30

abbrev pub parts : ℕ → Value → List (List ℕ)
parts w v =
    header Command ∷ le_bytes 2 (2 + length (value_bytes v)) ∷ le_bytes 2 w ∷ (value_parts v ++ (tail Command ∷ []))
