-- The command rows of document 01, "Bytes to try", and rows for its point 6 and for request 7. Buffers are full of 55
-- before, so that unchanged bytes show.
--   enable_frame        "`EnableConfig` writes FD FC FB FA 04 00 FF 00 01 00 04 03 02 01"
--   end_frame           the frame of `EndConfig`, which has no value
--   hundred_frame       the frame of `setting 100 100`: "Three records, number 0, 1, 2 (two bytes) and value (four)"
--   gates_frame m s     the frame of `reaching m s`
--   buffer n           a buffer of n bytes
--   setting m s        the `SetSensitivity` of gate 3 to m and s
--   sensing g          the `SetSensitivity` of the gate g to 50 and 40
--   sensing_frame a b   the frame of `sensing g`, with the gate's two bytes a and b
--   number_frame w v    the frame with the word w and the two-byte value v, both below 256
--   reaching m s       the `SetMaxGates` of the farthest gates m and s, and 5 seconds
--   commands           the rows
use Rattle.std.specs.Prelude.{List, [], ◌∷◌, ◌++◌, true, false, ℕ, replicate, Ok, Err}
use Rattle.refusal.specs.declared.Error.TheVariants.{Unsupported, BufferTooSmall, UnknownCommand}
use Rattle.command.specs.declared.setting.Gate.{Gate}
use Rattle.command.specs.declared.setting.Gate.TheVariants.{Index, All}
use Rattle.command.specs.declared.Command.{Command}
use Rattle.command.specs.declared.Command.TheVariants.{EnableConfig, EndConfig, SetMaxGates, SetSensitivity}
use Rattle.command.specs.declared.Command.TheVariants.{SetBaud, Bluetooth}
use Rattle.command.specs.declared.setting.Baud.TheVariants.{B9600, B460800}
use Rattle.cases.specs.Row.{CommandRow, encodes, parses}

abbrev pub enable_frame : List ℕ
enable_frame = 0xFD ∷ 0xFC ∷ 0xFB ∷ 0xFA ∷ 0x04 ∷ 0x00 ∷ 0xFF ∷ 0x00 ∷ 0x01 ∷ 0x00 ∷ 0x04 ∷ 0x03 ∷ 0x02 ∷ 0x01 ∷ []

abbrev pub end_frame : List ℕ
end_frame = 0xFD ∷ 0xFC ∷ 0xFB ∷ 0xFA ∷ 0x02 ∷ 0x00 ∷ 0xFE ∷ 0x00 ∷ 0x04 ∷ 0x03 ∷ 0x02 ∷ 0x01 ∷ []

abbrev pub hundred_frame : List ℕ
hundred_frame = 0xFD ∷ 0xFC ∷ 0xFB ∷ 0xFA ∷ 0x14 ∷ 0x00 ∷ 0x64 ∷ 0x00 ∷ 0x00 ∷ 0x00 ∷ 0x03 ∷ 0x00 ∷ 0x00 ∷ 0x00 ∷ 0x01
    ∷ 0x00 ∷ 0x64 ∷ 0x00 ∷ 0x00 ∷ 0x00 ∷ 0x02 ∷ 0x00 ∷ 0x64 ∷ 0x00 ∷ 0x00 ∷ 0x00 ∷ 0x04 ∷ 0x03 ∷ 0x02 ∷ 0x01 ∷ []

abbrev pub gates_frame : (moving stationary : ℕ) → List ℕ
gates_frame m s = 0xFD ∷ 0xFC ∷ 0xFB ∷ 0xFA ∷ 0x14 ∷ 0x00 ∷ 0x60 ∷ 0x00 ∷ 0x00 ∷ 0x00 ∷ m ∷ 0x00 ∷ 0x00 ∷ 0x00 ∷ 0x01
    ∷ 0x00 ∷ s ∷ 0x00 ∷ 0x00 ∷ 0x00 ∷ 0x02 ∷ 0x00 ∷ 0x05 ∷ 0x00 ∷ 0x00 ∷ 0x00 ∷ 0x04 ∷ 0x03 ∷ 0x02 ∷ 0x01 ∷ []

abbrev pub buffer : ℕ → List ℕ
buffer n = replicate n 0x55

abbrev pub setting : (moving stationary : ℕ) → Command
setting m s = SetSensitivity (Index 3) m s

abbrev pub sensing : Gate → Command
sensing g = SetSensitivity g 50 40

abbrev pub sensing_frame : (low high : ℕ) → List ℕ
sensing_frame a b = 0xFD ∷ 0xFC ∷ 0xFB ∷ 0xFA ∷ 0x14 ∷ 0x00 ∷ 0x64 ∷ 0x00 ∷ 0x00 ∷ 0x00 ∷ a ∷ b ∷ 0x00 ∷ 0x00 ∷ 0x01
    ∷ 0x00 ∷ 0x32 ∷ 0x00 ∷ 0x00 ∷ 0x00 ∷ 0x02 ∷ 0x00 ∷ 0x28 ∷ 0x00 ∷ 0x00 ∷ 0x00 ∷ 0x04 ∷ 0x03 ∷ 0x02 ∷ 0x01 ∷ []

abbrev pub number_frame : (word value : ℕ) → List ℕ
number_frame w v = 0xFD ∷ 0xFC ∷ 0xFB ∷ 0xFA ∷ 0x04 ∷ 0x00 ∷ w ∷ 0x00 ∷ v ∷ 0x00 ∷ 0x04 ∷ 0x03 ∷ 0x02 ∷ 0x01 ∷ []

abbrev pub reaching : (moving stationary : ℕ) → Command
reaching m s = SetMaxGates m s 5

abbrev pub commands : List CommandRow
commands =
    -- "`EnableConfig` writes FD FC FB FA 04 00 FF 00 01 00 04 03 02 01"
    encodes EnableConfig (buffer 14) (Ok 14) enable_frame
    -- "Bytes after a written frame stay"
    ∷ encodes EnableConfig (buffer 17) (Ok 14) (enable_frame ++ buffer 3)
    -- "into 13 bytes, 4 with 14 needed"
    ∷ encodes EnableConfig (buffer 13) (Err (BufferTooSmall 14)) (buffer 13)
    -- "Sensitivity 100 passes"
    ∷ encodes (setting 100 100) (buffer 30) (Ok 30) hundred_frame
    -- "101 gets 2 even with an empty buffer", moving or stationary
    ∷ encodes (setting 101 100) [] (Err Unsupported) []
    ∷ encodes (setting 100 101) [] (Err Unsupported) []
    -- and with a buffer that is long enough, which stays as it was
    ∷ encodes (setting 101 100) (buffer 30) (Err Unsupported) (buffer 30)
    -- "12, 14 or 30 bytes": the shortest
    ∷ encodes EndConfig (buffer 12) (Ok 12) end_frame
    -- not a row of the document: the reader, on the bytes that `EnableConfig` writes
    ∷ parses enable_frame (Ok EnableConfig)
    -- "Give 2 for a farthest gate of 0 or 1", moving or stationary, even with an empty buffer
    ∷ encodes (reaching 1 8) [] (Err Unsupported) []
    ∷ encodes (reaching 8 1) [] (Err Unsupported) []
    -- and with a buffer that is long enough, which stays as it was
    ∷ encodes (reaching 0 8) (buffer 30) (Err Unsupported) (buffer 30)
    ∷ encodes (reaching 8 0) (buffer 30) (Err Unsupported) (buffer 30)
    -- "in the place where gates above 8 get it"
    ∷ encodes (reaching 9 8) [] (Err Unsupported) []
    ∷ encodes (reaching 8 9) [] (Err Unsupported) []
    -- gates 2 to 8 pass: a buffer that is too short gets 4; and they are read again
    ∷ encodes (reaching 2 8) (buffer 30) (Ok 30) (gates_frame 2 8)
    ∷ encodes (reaching 8 2) (buffer 29) (Err (BufferTooSmall 30)) (buffer 29)
    ∷ encodes (reaching 3 4) [] (Err (BufferTooSmall 30)) []
    ∷ encodes (reaching 4 3) [] (Err (BufferTooSmall 30)) []
    ∷ encodes (reaching 5 6) [] (Err (BufferTooSmall 30)) []
    ∷ encodes (reaching 6 5) [] (Err (BufferTooSmall 30)) []
    ∷ encodes (reaching 7 7) [] (Err (BufferTooSmall 30)) []
    ∷ parses (gates_frame 2 8) (Ok (reaching 2 8))
    -- "the command reader gives 5 for such bytes"
    ∷ parses (gates_frame 1 8) (Err UnknownCommand)
    ∷ parses (gates_frame 8 0) (Err UnknownCommand)
    -- "Gates run 0 to 8": for `SetSensitivity` 0 and 1 pass too; 9 gets 2
    ∷ encodes (sensing (Index 0)) (buffer 30) (Ok 30) (sensing_frame 0x00 0x00)
    ∷ encodes (sensing (Index 1)) (buffer 30) (Ok 30) (sensing_frame 0x01 0x00)
    ∷ encodes (sensing (Index 8)) (buffer 30) (Ok 30) (sensing_frame 0x08 0x00)
    ∷ encodes (sensing (Index 9)) (buffer 30) (Err Unsupported) (buffer 30)
    -- "00A1 `SetBaud`, index 1 to 8; 00A4 `Bluetooth`, 1 or 0"
    ∷ encodes (SetBaud B9600) (buffer 14) (Ok 14) (number_frame 0xA1 0x01)
    ∷ encodes (SetBaud B460800) (buffer 14) (Ok 14) (number_frame 0xA1 0x08)
    ∷ encodes (Bluetooth true) (buffer 14) (Ok 14) (number_frame 0xA4 0x01)
    ∷ encodes (Bluetooth false) (buffer 14) (Ok 14) (number_frame 0xA4 0x00)
    ∷ parses (number_frame 0xA1 0x08) (Ok (SetBaud B460800))
    -- "hexadecimal FFFF for all"
    ∷ encodes (sensing All) (buffer 30) (Ok 30) (sensing_frame 0xFF 0xFF)
    ∷ parses (sensing_frame 0x00 0x00) (Ok (sensing (Index 0)))
    ∷ parses (sensing_frame 0x01 0x00) (Ok (sensing (Index 1)))
    ∷ parses (sensing_frame 0x09 0x00) (Err UnknownCommand)
    ∷ []
