-- The claims about loads: request 8. What a parser counts in a load is in Counts.antt.
--   Filled x out r left   the answer r tells how many bytes at the front of the buffer `left` are the load of the seed
--                         x; the bytes after them are those of the buffer `out`
--   Stops k x n           the first k pieces after the number x have at most n bytes and at most 65,536, and with one
--                         more they do not
--   StopsOnce x n         the load of the seed x in a buffer of n bytes is the first pieces, up to the one place where
--                         they stop
--   Prefix x              of two buffers the shorter gets a prefix of the longer one's load
--   LoadExamples          draws; a load of each kind of piece; what follows a report; a load of three pieces, and one
--                         that stops although the piece after the next would fit
use Rattle.std.specs.Prelude.{◌≡◌, ◌≢◌, List, [], ◌∷◌, ◌++◌, ℕ, suc, ◌≤◌, ◌<◌, min, length, take, drop}
use Rattle.std.specs.declared.result.Result.{Result}
use Rattle.wire.specs.Family.{framed}
use Rattle.wire.specs.declared.Kind.TheVariants.{Command}
use Rattle.load_writer.specs.Draw.{draw_of}
use Rattle.load_writer.specs.Load.{first_pieces, load}
use Rattle.load_writer.specs.Answer.{returned_load}
use Rattle.load_writer.specs.declared.LoadError.{LoadError}

-- "The filled length is returned, and bytes after it stay."
pub record Filled (x : ℕ) (out : List ℕ) (r : Result ℕ LoadError) (left : List ℕ) : Type 0 where
  pub front : x ≢ 0 → take (returned_load r).value left ≡ load x (length out)
  -- beside a refusal the filled length is 0, so all bytes stay
  pub stay : drop (returned_load r).value left ≡ drop (returned_load r).value out

-- "until the next would pass the buffer's end or 65,536 bytes"
pub record Stops (k x n : ℕ) : Type 0 where
  pub within : length (first_pieces k x) ≤ min n 65536
  pub passes : min n 65536 < length (first_pieces (suc k) x)

pub record StopsOnce (x n : ℕ) : Type 0 where
  pub pieces : ℕ
  pub stops : Stops pieces x n
  -- "Pieces are laid down"
  pub are : load x n ≡ first_pieces pieces x
  pub only : (k : ℕ) → Stops k x n → k ≡ pieces

-- "A shorter buffer gets a prefix of the longer one's load."
abbrev pub Prefix : ℕ → Type 0
Prefix x = (n m : ℕ) → n ≤ m → (rest : List ℕ) × (load x n ++ rest ≡ load x m)

-- The acknowledgement of `EnableConfig`, by its parts: word FF 01, status 0, version 1, buffer size 64.
abbrev pub acknowledged : List ℕ
acknowledged = framed Command (0xFF ∷ 0x01 ∷ 0x00 ∷ 0x00 ∷ 0x01 ∷ 0x00 ∷ 0x40 ∷ 0x00 ∷ [])

pub record LoadExamples : Type 0 where
  -- "each result is a draw"
  pub first : draw_of 1 ≡ 270369
  pub second : draw_of 270369 ≡ 67634689
  -- "(low 32 bits kept)"
  pub kept : draw_of 0xFFFFFFFF ≡ 253983
  -- "0, one byte"
  pub byte : load 4 1 ≡ 0x04 ∷ []
  -- "1, a basic report"
  pub report : load 1 23 ≡ 0xF4 ∷ 0xF3 ∷ 0xF2 ∷ 0xF1 ∷ 0x0D ∷ 0x00 ∷ 0x02 ∷ 0xAA ∷ 0x01 ∷ 0xC5 ∷ 0x4F ∷ 0xD1 ∷ 0xD0
      ∷ 0x1A ∷ 0xB2 ∷ 0x25 ∷ 0x74 ∷ 0x55 ∷ 0x00 ∷ 0xF8 ∷ 0xF7 ∷ 0xF6 ∷ 0xF5 ∷ []
  -- "2, the same without its last byte"
  pub cut : load 2 22 ≡ 0xF4 ∷ 0xF3 ∷ 0xF2 ∷ 0xF1 ∷ 0x0D ∷ 0x00 ∷ 0x02 ∷ 0xAA ∷ 0x02 ∷ 0x82 ∷ 0x06 ∷ 0x1A ∷ 0x23
      ∷ 0x59 ∷ 0xB6 ∷ 0x2A ∷ 0x3B ∷ 0x55 ∷ 0x00 ∷ 0xF8 ∷ 0xF7 ∷ 0xF6 ∷ []
  -- after a report, whole or cut, the next draw chooses: nine draws are its own
  pub after_report : drop 23 (load 129 24) ≡ 0x4D ∷ []
  pub after_cut : drop 22 (load 32 23) ≡ 0x81 ∷ []
  -- "3, FD FC FB FA 08 00 FF 01 00 00 01 00 40 00 04 03 02 01"
  pub ack : load 3 18 ≡ acknowledged
  -- a byte, the acknowledgement, a byte; where the acknowledgement would pass the end, the byte after it is not tried
  pub three : load 42 20 ≡ 0xAC ∷ (acknowledged ++ (0xC4 ∷ []))
  pub stopped : load 42 18 ≡ 0xAC ∷ []
