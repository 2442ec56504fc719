-- Rows of request 8: loads written into buffers. Buffers are full of 55 before, so that unchanged bytes show.
--   printed_ack     "FD FC FB FA 08 00 FF 01 00 00 01 00 40 00 04 03 02 01"
--   drawn_report    the basic report that the load of the seed 1 begins with
--   first_cut       the report without its last byte that the load of the seed 2 begins with
--   second_cut      the one after it
--   mended_report   the first two pieces of the seed 2519: a report without its last byte, and that byte, F5
--   later_report    the fourth piece of the seed 2526003851, after F4, F3 and F2, pieces of one byte each
--   loads          the rows
use Rattle.std.specs.Prelude.{List, [], ◌∷◌, ◌++◌, ℕ, Ok, Err}
use Rattle.std.specs.declared.result.Result.{Result}
use Rattle.load_writer.specs.declared.LoadError.{LoadError}
use Rattle.load_writer.specs.declared.LoadError.TheVariants.{SeedZero}
use Rattle.cases.specs.Row.{LoadRow}
use Rattle.cases.specs.Commands.{buffer}

abbrev pub printed_ack : List ℕ
printed_ack = 0xFD ∷ 0xFC ∷ 0xFB ∷ 0xFA ∷ 0x08 ∷ 0x00 ∷ 0xFF ∷ 0x01 ∷ 0x00 ∷ 0x00 ∷ 0x01 ∷ 0x00 ∷ 0x40 ∷ 0x00 ∷ 0x04
    ∷ 0x03 ∷ 0x02 ∷ 0x01 ∷ []

abbrev pub drawn_report : List ℕ
drawn_report = 0xF4 ∷ 0xF3 ∷ 0xF2 ∷ 0xF1 ∷ 0x0D ∷ 0x00 ∷ 0x02 ∷ 0xAA ∷ 0x01 ∷ 0xC5 ∷ 0x4F ∷ 0xD1 ∷ 0xD0 ∷ 0x1A ∷ 0xB2
    ∷ 0x25 ∷ 0x74 ∷ 0x55 ∷ 0x00 ∷ 0xF8 ∷ 0xF7 ∷ 0xF6 ∷ 0xF5 ∷ []

abbrev pub first_cut : List ℕ
first_cut = 0xF4 ∷ 0xF3 ∷ 0xF2 ∷ 0xF1 ∷ 0x0D ∷ 0x00 ∷ 0x02 ∷ 0xAA ∷ 0x02 ∷ 0x82 ∷ 0x06 ∷ 0x1A ∷ 0x23 ∷ 0x59 ∷ 0xB6 ∷ 0x2A
    ∷ 0x3B ∷ 0x55 ∷ 0x00 ∷ 0xF8 ∷ 0xF7 ∷ 0xF6 ∷ []

abbrev pub second_cut : List ℕ
second_cut = 0xF4 ∷ 0xF3 ∷ 0xF2 ∷ 0xF1 ∷ 0x0D ∷ 0x00 ∷ 0x02 ∷ 0xAA ∷ 0x3D ∷ 0x09 ∷ 0x24 ∷ 0x3E ∷ 0xFE ∷ 0xBF ∷ 0xFF
    ∷ 0x35 ∷ 0x9B ∷ 0x55 ∷ 0x00 ∷ 0xF8 ∷ 0xF7 ∷ 0xF6 ∷ []

abbrev pub mended_report : List ℕ
mended_report = 0xF4 ∷ 0xF3 ∷ 0xF2 ∷ 0xF1 ∷ 0x0D ∷ 0x00 ∷ 0x02 ∷ 0xAA ∷ 0x19 ∷ 0x65 ∷ 0x6E ∷ 0x29 ∷ 0x59 ∷ 0xF6 ∷ 0x34
    ∷ 0x2C ∷ 0xEB ∷ 0x55 ∷ 0x00 ∷ 0xF8 ∷ 0xF7 ∷ 0xF6 ∷ 0xF5 ∷ []

abbrev pub later_report : List ℕ
later_report = 0xF4 ∷ 0xF3 ∷ 0xF2 ∷ 0xF1 ∷ 0x0D ∷ 0x00 ∷ 0x02 ∷ 0xAA ∷ 0x90 ∷ 0xF6 ∷ 0xEF ∷ 0xFE ∷ 0x69 ∷ 0x6E ∷ 0x6D
    ∷ 0xD8 ∷ 0xF1 ∷ 0x55 ∷ 0x00 ∷ 0xF8 ∷ 0xF7 ∷ 0xF6 ∷ 0xF5 ∷ []

abbrev row : ℕ → List ℕ → Result ℕ LoadError → List ℕ → LoadRow
row x before answer after = record { seed = x; before = before; answer = answer; after = after }

abbrev pub loads : List LoadRow
loads =
    -- "9, seed zero, tested before all else": also for an empty buffer
    row 0 (buffer 20) (Err SeedZero) (buffer 20)
    ∷ row 0 [] (Err SeedZero) []
    -- no piece has room in an empty buffer, and that is no refusal
    ∷ row 1 [] (Ok 0) []
    -- "0, one byte", three times; "bytes after it stay", since the fourth piece is a report and has no room
    ∷ row 4 (buffer 6) (Ok 3) (0x04 ∷ 0x0C ∷ 0x67 ∷ buffer 3)
    -- "1, a basic report", then "3, FD FC FB FA .."
    ∷ row 1 (buffer 41) (Ok 41) (drawn_report ++ printed_ack)
    -- "A shorter buffer gets a prefix of the longer one's load": whole pieces of it
    ∷ row 1 (buffer 40) (Ok 23) (drawn_report ++ buffer 17)
    ∷ row 1 (buffer 22) (Ok 0) (buffer 22)
    -- "2, the same without its last byte", twice, then a byte
    ∷ row 2 (buffer 45) (Ok 45) (first_cut ++ (second_cut ++ (0xE8 ∷ [])))
    ∷ row 2 (buffer 43) (Ok 22) (first_cut ++ buffer 21)
    -- a byte, the acknowledgement, a byte; where the second "would pass the buffer's end", the third is not tried
    ∷ row 42 (buffer 20) (Ok 20) (0xAC ∷ (printed_ack ++ (0xC4 ∷ [])))
    ∷ row 42 (buffer 18) (Ok 1) (0xAC ∷ buffer 17)
    -- a byte that completes the report before it
    ∷ row 2519 (buffer 23) (Ok 23) mended_report
    -- the nearest that single bytes come to a header
    ∷ row 2526003851 (buffer 26) (Ok 26) (0xF4 ∷ 0xF3 ∷ 0xF2 ∷ later_report)
    ∷ []
