-- The stream rows of document 01, "Bytes to try", and rows for requests 5 and 8: "Stream rows start fresh." Where the
-- document names some of the five numbers, the others are those of its division.
--   b           "B is F4 F3 F2 F1 0D 00 02 AA 03 78 00 3C 96 00 2D C8 00 55 00 F8 F7 F6 F5"
--   bare        a command frame that is no acknowledgement: its data are a word alone
--   begun       a report's header, and the length 54
--   zeros n     a report frame with n data bytes, all 00: it has n + 10 bytes
--   numbers     frames, resyncs, dropped, malformed and unfinished, in the order in which they are printed
--   streams     the rows
use Rattle.std.specs.Prelude.{List, [], ◌∷◌, ◌++◌, map, ℕ, take, drop, replicate}
use Rattle.framing.specs.Piece.{Piece, stray, broken, whole, unfinished}
use Rattle.cases.specs.Row.{Numbers, Stream}
use Rattle.cases.specs.Loads.{printed_ack, drawn_report, first_cut, second_cut, mended_report, later_report}

abbrev pub b : List ℕ
b = 0xF4 ∷ 0xF3 ∷ 0xF2 ∷ 0xF1 ∷ 0x0D ∷ 0x00 ∷ 0x02 ∷ 0xAA ∷ 0x03 ∷ 0x78 ∷ 0x00 ∷ 0x3C ∷ 0x96 ∷ 0x00 ∷ 0x2D ∷ 0xC8
    ∷ 0x00 ∷ 0x55 ∷ 0x00 ∷ 0xF8 ∷ 0xF7 ∷ 0xF6 ∷ 0xF5 ∷ []

abbrev pub bare : List ℕ
bare = 0xFD ∷ 0xFC ∷ 0xFB ∷ 0xFA ∷ 0x02 ∷ 0x00 ∷ 0xFF ∷ 0x00 ∷ 0x04 ∷ 0x03 ∷ 0x02 ∷ 0x01 ∷ []

abbrev begun : List ℕ
begun = 0xF4 ∷ 0xF3 ∷ 0xF2 ∷ 0xF1 ∷ 0x36 ∷ 0x00 ∷ []

abbrev zeros : ℕ → List ℕ
zeros n = 0xF4 ∷ 0xF3 ∷ 0xF2 ∷ 0xF1 ∷ n ∷ 0x00 ∷ (replicate n 0x00 ++ (0xF8 ∷ 0xF7 ∷ 0xF6 ∷ 0xF5 ∷ []))

abbrev pub numbers : (frames resyncs dropped malformed unfinished : ℕ) → Numbers
numbers f r d m u = record { frames = f; resyncs = r; dropped = d; malformed = m; unfinished = u }

abbrev row : List ℕ → List Piece → Numbers → Stream
row s ps n = record { bytes = s; pieces = ps; numbers = n }

abbrev pub streams : List Stream
streams =
    -- "no bytes: all counters 0"
    row [] [] (numbers 0 0 0 0 0)
    -- "F4 F4: resyncs 1, dropped 1, unfinished 1"
    ∷ row (0xF4 ∷ 0xF4 ∷ []) (broken (0xF4 ∷ []) ∷ unfinished (0xF4 ∷ []) ∷ []) (numbers 0 1 1 0 1)
    -- "B: one frame"
    ∷ row b (whole b ∷ []) (numbers 1 0 0 0 0)
    -- "B with last byte 00: resyncs 1, dropped 23"
    ∷ row (take 22 b ++ (0x00 ∷ [])) (broken (take 22 b) ∷ stray 0x00 ∷ []) (numbers 0 1 23 0 0)
    -- "F4 F3 F2 F1 01 00: resyncs 1, dropped 6"
    ∷ row (0xF4 ∷ 0xF3 ∷ 0xF2 ∷ 0xF1 ∷ 0x01 ∷ 0x00 ∷ [])
    (broken (0xF4 ∷ 0xF3 ∷ 0xF2 ∷ 0xF1 ∷ 0x01 ∷ []) ∷ stray 0x00 ∷ []) (numbers 0 1 6 0 0)
    -- "F4 F3 F2 F1 37 F4: dropped 5, unfinished 1"
    ∷ row (0xF4 ∷ 0xF3 ∷ 0xF2 ∷ 0xF1 ∷ 0x37 ∷ 0xF4 ∷ [])
    (broken (0xF4 ∷ 0xF3 ∷ 0xF2 ∷ 0xF1 ∷ 0x37 ∷ []) ∷ unfinished (0xF4 ∷ []) ∷ []) (numbers 0 1 5 0 1)
    -- "F4 F3 F2 F1 36 00: unfinished 6"
    ∷ row (0xF4 ∷ 0xF3 ∷ 0xF2 ∷ 0xF1 ∷ 0x36 ∷ 0x00 ∷ [])
    (unfinished (0xF4 ∷ 0xF3 ∷ 0xF2 ∷ 0xF1 ∷ 0x36 ∷ 0x00 ∷ []) ∷ []) (numbers 0 0 0 0 6)
    -- "With 37 00: dropped 6"
    ∷ row (0xF4 ∷ 0xF3 ∷ 0xF2 ∷ 0xF1 ∷ 0x37 ∷ 0x00 ∷ [])
    (broken (0xF4 ∷ 0xF3 ∷ 0xF2 ∷ 0xF1 ∷ 0x37 ∷ []) ∷ stray 0x00 ∷ []) (numbers 0 1 6 0 0)
    -- "FD FC FB FA 02 00 FF 00 04 03 02 01: malformed 1"
    ∷ row bare (whole bare ∷ []) (numbers 0 0 0 1 0)
    -- point 8: "For input 00, case B, F4 it prints `1 0 1 0 1`"
    ∷ row (0x00 ∷ b ++ (0xF4 ∷ [])) (stray 0x00 ∷ whole b ∷ unfinished (0xF4 ∷ []) ∷ []) (numbers 1 0 1 0 1)
    -- not a row of the document: each kind of piece in one stream; the byte that breaks a start begins the whole frame
    ∷ row (0x00 ∷ 0xF4 ∷ b ++ (0xFD ∷ []))
    (stray 0x00 ∷ broken (0xF4 ∷ []) ∷ whole b ∷ unfinished (0xFD ∷ []) ∷ []) (numbers 1 1 2 0 1)
    -- request 5: after a header and the length 54, B is found if it begins 54 bytes later
    ∷ row (begun ++ (zeros 44 ++ b)) (broken (begun ++ zeros 44) ∷ whole b ∷ []) (numbers 1 1 60 0 0)
    -- and lost if it begins 53 bytes later: its first byte is taken for the last data byte
    ∷ row (begun ++ (zeros 43 ++ b)) (broken (begun ++ (zeros 43 ++ (0xF4 ∷ []))) ∷ map stray (drop 1 b))
    (numbers 0 1 82 0 0)
    -- request 8, loads of Loads.antt: a report and the acknowledgement after it are whole frames, and decode
    ∷ row (drawn_report ++ printed_ack) (whole drawn_report ∷ whole printed_ack ∷ []) (numbers 2 0 0 0 0)
    -- reports without their last byte are broken starts, and a single byte is stray
    ∷ row (first_cut ++ (second_cut ++ (0xE8 ∷ []))) (broken first_cut ∷ broken second_cut ∷ stray 0xE8 ∷ [])
    (numbers 0 2 45 0 0)
    -- unless the byte is the missing one
    ∷ row mended_report (whole mended_report ∷ []) (numbers 1 0 0 0 0)
    -- single bytes begin a header, and the report after them is found
    ∷ row (0xF4 ∷ 0xF3 ∷ 0xF2 ∷ later_report) (broken (0xF4 ∷ 0xF3 ∷ 0xF2 ∷ []) ∷ whole later_report ∷ [])
    (numbers 1 1 3 0 0)
    ∷ []
