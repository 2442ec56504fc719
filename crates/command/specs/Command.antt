-- Commands: document 01, point 6. "A frame is header, length, word, value, tail: 12, 14 or 30 bytes."
--   word_of c         the command's word
--   value_of c        the value after the word: none, a two-byte number, or the values of three records
--   command_frame c   the command's frame
--   encodable c      whether the module takes the command's values: gates 0 to 8, farthest gates 2 to 8, sensitivities
--                    0 to 100
--   unsupported c    refusal 2, unless the command is encodable
use Rattle.std.specs.Prelude.{List, Bool, true, false, ◌&&◌, ℕ, leb}
use Rattle.std.specs.declared.option.Option.{Option}
use Rattle.refusal.specs.declared.Error.{Error}
use Rattle.refusal.specs.declared.Error.TheVariants.{Unsupported}
use Rattle.writer.specs.Written.{unless}
use Rattle.command.specs.Setting.{gate_value, gate_known, farthest, sensitivity, index_of}
use Rattle.cursor.specs.CommandFrame.{frame_with}
use Rattle.cursor.specs.declared.command_frame.Value.{Value}
use Rattle.cursor.specs.declared.command_frame.Value.TheVariants as Of
use Rattle.command.specs.declared.Command.{Command}
use Rattle.command.specs.declared.Command.TheVariants.{EnableConfig, EndConfig, SetMaxGates, ReadParameters}
use Rattle.command.specs.declared.Command.TheVariants.{EngineeringMode, SetSensitivity, ReadFirmware, SetBaud}
use Rattle.command.specs.declared.Command.TheVariants.{FactoryReset, Restart, Bluetooth, ReadMac}

abbrev pub word_of : Command → ℕ
word_of EnableConfig = 0x00FF
word_of EndConfig = 0x00FE
word_of (SetMaxGates m s n) = 0x0060
word_of ReadParameters = 0x0061
word_of (EngineeringMode true) = 0x0062
word_of (EngineeringMode false) = 0x0063
word_of (SetSensitivity g m s) = 0x0064
word_of ReadFirmware = 0x00A0
word_of (SetBaud b) = 0x00A1
word_of FactoryReset = 0x00A2
word_of Restart = 0x00A3
word_of (Bluetooth on) = 0x00A4
word_of ReadMac = 0x00A5

abbrev pub value_of : Command → Value
value_of EnableConfig = Of.Number 1
value_of EndConfig = Of.None
value_of (SetMaxGates m s n) = Of.Records m s n
value_of ReadParameters = Of.None
value_of (EngineeringMode on) = Of.None
value_of (SetSensitivity g m s) = Of.Records (gate_value g) m s
value_of ReadFirmware = Of.None
value_of (SetBaud b) = Of.Number (index_of b)
value_of FactoryReset = Of.None
value_of Restart = Of.None
value_of (Bluetooth true) = Of.Number 1
value_of (Bluetooth false) = Of.Number 0
value_of ReadMac = Of.Number 1

abbrev pub command_frame : Command → List ℕ
command_frame c = frame_with (word_of c) (value_of c)

-- The seconds are a number of two bytes; in the code their type says so.
abbrev pub encodable : Command → Bool
encodable EnableConfig = true
encodable EndConfig = true
encodable (SetMaxGates m s n) = leb n 65535 && (farthest m && farthest s)
encodable ReadParameters = true
encodable (EngineeringMode on) = true
encodable (SetSensitivity g m s) = gate_known g && (sensitivity m && sensitivity s)
encodable ReadFirmware = true
encodable (SetBaud b) = true
encodable FactoryReset = true
encodable Restart = true
encodable (Bluetooth on) = true
encodable ReadMac = true

abbrev pub unsupported : Command → Option Error
unsupported c = unless (encodable c) Unsupported
