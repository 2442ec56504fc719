-- Rows of request 9: bytes matched by the two tables. States 0 to 3 look for a report's header, 4 to 7 for a command's;
-- 8 to 11 are in a report's tail, 12 to 15 in a command's, here of frames with 2 data bytes; 16 and 20 are after a
-- header, 24 and 28 after a tail.
--   walks   the rows
use Rattle.std.specs.Prelude.{List, [], ◌∷◌, ℕ}
use Rattle.cases.specs.Walk.{Walk}

abbrev header : ℕ → List ℕ → List ℕ → (resyncs dropped : ℕ) → Walk
header s bs states r d = record { state = s; len = 0; bytes = bs; states = states; resyncs = r; dropped = d }

abbrev tail : ℕ → List ℕ → List ℕ → (resyncs dropped : ℕ) → Walk
tail s bs states r d = record { state = s; len = 2; bytes = bs; states = states; resyncs = r; dropped = d }

abbrev pub walks : List Walk
walks =
    -- the two headers and the two tails
    header 0 (0xF4 ∷ 0xF3 ∷ 0xF2 ∷ 0xF1 ∷ []) (1 ∷ 2 ∷ 3 ∷ 16 ∷ []) 0 0
    ∷ header 0 (0xFD ∷ 0xFC ∷ 0xFB ∷ 0xFA ∷ []) (5 ∷ 6 ∷ 7 ∷ 20 ∷ []) 0 0
    ∷ tail 8 (0xF8 ∷ 0xF7 ∷ 0xF6 ∷ 0xF5 ∷ []) (9 ∷ 10 ∷ 11 ∷ 24 ∷ []) 0 0
    ∷ tail 12 (0x04 ∷ 0x03 ∷ 0x02 ∷ 0x01 ∷ []) (13 ∷ 14 ∷ 15 ∷ 28 ∷ []) 0 0
    -- bytes that begin nothing, those of a header or tail among them
    ∷ header 0 (0x00 ∷ 0xFF ∷ 0xF3 ∷ 0xFC ∷ 0xF8 ∷ 0x04 ∷ 0xF9 ∷ []) (0 ∷ 0 ∷ 0 ∷ 0 ∷ 0 ∷ 0 ∷ 0 ∷ []) 0 7
    -- a header that begins again after one, two and three bytes
    ∷ header 0 (0xF4 ∷ 0xF4 ∷ 0xF3 ∷ 0xF4 ∷ 0xF3 ∷ 0xF2 ∷ 0xF4 ∷ []) (1 ∷ 1 ∷ 2 ∷ 1 ∷ 2 ∷ 3 ∷ 1 ∷ []) 3 6
    ∷ header 0 (0xFD ∷ 0xFD ∷ 0xFC ∷ 0xFD ∷ 0xFC ∷ 0xFB ∷ 0xFD ∷ []) (5 ∷ 5 ∷ 6 ∷ 5 ∷ 6 ∷ 7 ∷ 5 ∷ []) 3 6
    -- the other family's header begins, and its bytes match nothing
    ∷ header 0 (0xF4 ∷ 0xFD ∷ 0xF4 ∷ 0xF3 ∷ 0xFD ∷ 0xFC ∷ 0xF4 ∷ []) (1 ∷ 5 ∷ 1 ∷ 2 ∷ 5 ∷ 6 ∷ 1 ∷ []) 4 6
    ∷ header 0 (0xF4 ∷ 0xF3 ∷ 0xF2 ∷ 0xFA ∷ []) (1 ∷ 2 ∷ 3 ∷ 0 ∷ []) 1 4
    ∷ header 0 (0xFD ∷ 0xFC ∷ 0xFB ∷ 0xF1 ∷ []) (5 ∷ 6 ∷ 7 ∷ 0 ∷ []) 1 4
    ∷ header 0 (0xFD ∷ 0xF3 ∷ []) (5 ∷ 0 ∷ []) 1 2
    -- a parser built by hand may look for a command's header, with nothing matched
    ∷ header 4 (0xFD ∷ []) (5 ∷ []) 0 0
    ∷ header 4 (0xF4 ∷ []) (1 ∷ []) 0 0
    ∷ header 4 (0xFC ∷ []) (0 ∷ []) 0 1
    -- a tail that breaks: header, length and data are given up with it, and the byte may begin a header
    ∷ tail 8 (0x00 ∷ []) (0 ∷ []) 1 9
    ∷ tail 8 (0xF8 ∷ 0xF8 ∷ []) (9 ∷ 0 ∷ []) 1 10
    ∷ tail 8 (0xF8 ∷ 0xF7 ∷ 0xF4 ∷ 0xF3 ∷ []) (9 ∷ 10 ∷ 1 ∷ 2 ∷ []) 1 10
    ∷ tail 8 (0xF8 ∷ 0xF7 ∷ 0xF6 ∷ 0xFD ∷ []) (9 ∷ 10 ∷ 11 ∷ 5 ∷ []) 1 11
    ∷ tail 8 (0x04 ∷ []) (0 ∷ []) 1 9
    ∷ tail 12 (0xF4 ∷ []) (1 ∷ []) 1 8
    ∷ tail 12 (0x04 ∷ 0xFD ∷ 0xFC ∷ []) (13 ∷ 5 ∷ 6 ∷ []) 1 9
    ∷ tail 12 (0x04 ∷ 0x03 ∷ 0x02 ∷ 0xF5 ∷ []) (13 ∷ 14 ∷ 15 ∷ 0 ∷ []) 1 12
    ∷ []
