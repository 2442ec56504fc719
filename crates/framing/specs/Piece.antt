-- The pieces that a stream is cut into, by the names of document 01, "The division of a stream".
--   Piece        a part of a stream: a stray byte, a broken start, a whole frame or an unfinished end, with its bytes
--   bytes p      the bytes of a piece
--   spelled ps   the bytes of a list of pieces, joined
use Rattle.std.specs.Prelude.{List, [], ◌∷◌, ◌++◌, ℕ}

pub data Piece : Type 0 where
  stray : (b : ℕ) → Piece
  broken : (s : List ℕ) → Piece
  whole : (s : List ℕ) → Piece
  unfinished : (s : List ℕ) → Piece

abbrev pub bytes : Piece → List ℕ
bytes (stray b) = b ∷ []
bytes (broken s) = s
bytes (whole s) = s
bytes (unfinished s) = s

abbrev pub spelled : List Piece → List ℕ
spelled [] = []
spelled (p ∷ ps) = bytes p ++ spelled ps
