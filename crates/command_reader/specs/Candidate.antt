-- How the reader's private functions find a command. Nobody needs to believe this: no contract of a public function
-- cites it.
--   gate_for v             the gate with the value v; some gate if there is none
--   baud_for i             the rate with the index i; some rate if there is none
--   lookup w l other      the command beside the word w in l, else `other`
--   candidate w n a b c   the only command that can have the word w and the value n, or the records a, b, c; some
--                         command if none can
--   candidate_in s         the candidate by the numbers at their places in s
--   encodes_to s c         the command c encodes to s
--   if_encodes_to s c       c if it encodes to s, else refusal 5
use Rattle.std.specs.Prelude.{List, [], ◌∷◌, Bool, true, false, cond, ◌&&◌, ℕ, ◌%◌, eqb, unwrap_or, Ok, Err}
use Rattle.std.specs.declared.result.Result.{Result}
use Rattle.wire.specs.Equal.{same_bytes}
use Rattle.refusal.specs.declared.Error.{Error}
use Rattle.refusal.specs.declared.Error.TheVariants.{UnknownCommand}
use Rattle.command.specs.Setting.{baud_of}
use Rattle.command.specs.declared.setting.Gate.{Gate}
use Rattle.command.specs.declared.setting.Gate.TheVariants.{Index, All}
use Rattle.command.specs.declared.setting.Baud.{Baud}
use Rattle.command.specs.declared.setting.Baud.TheVariants.{B9600}
use Rattle.command_reader.specs.CommandFrame.{number_in}
use Rattle.command.specs.Command.{command_frame, encodable}
use Rattle.command.specs.declared.Command.{Command}
use Rattle.command.specs.declared.Command.TheVariants.{EnableConfig, EndConfig, SetMaxGates, ReadParameters}
use Rattle.command.specs.declared.Command.TheVariants.{EngineeringMode, SetSensitivity, ReadFirmware, SetBaud}
use Rattle.command.specs.declared.Command.TheVariants.{FactoryReset, Restart, Bluetooth, ReadMac}

unfoldable pub gate_for : ℕ → Gate
gate_for v = cond (eqb v 0xFFFF) All (Index (v % 256))

unfoldable pub baud_for : ℕ → Baud
baud_for i = unwrap_or (baud_of i) B9600

abbrev pub lookup : ℕ → List (ℕ × Command) → Command → Command
lookup w [] other = other
lookup w (x ∷ l) other = cond (eqb w x.0) x.1 (lookup w l other)

unfoldable pub candidate : ℕ → ℕ → ℕ → ℕ → ℕ → Command
candidate w n a b c = lookup w (
    (0x00FF, EnableConfig)
    ∷ (0x0060, SetMaxGates (a % 256) (b % 256) c)
    ∷ (0x0061, ReadParameters)
    ∷ (0x0062, EngineeringMode true)
    ∷ (0x0063, EngineeringMode false)
    ∷ (0x0064, SetSensitivity (gate_for a) (b % 256) (c % 256))
    ∷ (0x00A0, ReadFirmware)
    ∷ (0x00A1, SetBaud (baud_for n))
    ∷ (0x00A2, FactoryReset)
    ∷ (0x00A3, Restart)
    ∷ (0x00A4, Bluetooth (eqb n 1))
    ∷ (0x00A5, ReadMac)
    ∷ []
    ) EndConfig

unfoldable pub candidate_in : List ℕ → Command
candidate_in s = candidate (number_in s 6) (number_in s 8) (number_in s 10) (number_in s 16) (number_in s 22)

abbrev pub encodes_to : List ℕ → Command → Bool
encodes_to s c = encodable c && same_bytes (command_frame c) s

unfoldable pub if_encodes_to : List ℕ → Command → Result Command Error
if_encodes_to s c = cond (encodes_to s c) (Ok c) (Err UnknownCommand)
