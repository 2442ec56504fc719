-- docs/REPLAY.md: "COMMAND, six bytes: the command's number, then five that are 0 where the table has nothing. Op 6
-- passes over what stands there instead, and over a gate beside `all`."
--   gate_of all i    the gate: "all (0 or 1), gate (0 with all)"
--   rate_set m       `SetBaud` with the rate in m, or no command
--   baud_command i   `SetBaud`: "index; one that no rate has is no COMMAND"
--   numbered k s    the command with the number k and the bytes s, by the table; none if no line has the number
--   command_in s     the command that the bytes s say
use Rattle.std.specs.Prelude.{List, Bool, true, false, cond, ℕ, eqb, Some, None}
use Rattle.std.specs.declared.option.Option.{Option}
use Rattle.command.specs.Setting.{baud_of}
use Rattle.command.specs.declared.setting.Gate.{Gate}
use Rattle.command.specs.declared.setting.Gate.TheVariants.{Index, All}
use Rattle.command.specs.declared.setting.Baud.{Baud}
use Rattle.command.specs.declared.Command.{Command}
use Rattle.command.specs.declared.Command.TheVariants.{EnableConfig, EndConfig, SetMaxGates, ReadParameters}
use Rattle.command.specs.declared.Command.TheVariants.{EngineeringMode, SetSensitivity, ReadFirmware, SetBaud}
use Rattle.command.specs.declared.Command.TheVariants.{FactoryReset, Restart, Bluetooth, ReadMac}
use Rattle.replay_io.specs.Argument.{field_at, flag_at}

abbrev pub gate_of : Bool → ℕ → Gate
gate_of true i = All
gate_of false i = Index i

abbrev pub rate_set : Option Baud → Option Command
rate_set (Some b) = Some (SetBaud b)
rate_set None = None

unfoldable pub baud_command : ℕ → Option Command
baud_command i = rate_set (baud_of i)

unfoldable pub numbered : ℕ → List ℕ → Option Command
numbered k s =
    cond (eqb k 0) (Some EnableConfig)
    (cond (eqb k 1) (Some EndConfig)
    (cond (eqb k 2) (Some (SetMaxGates (field_at 1 s 1) (field_at 1 s 2) (field_at 2 s 3)))
    (cond (eqb k 3) (Some ReadParameters)
    (cond (eqb k 4) (Some (EngineeringMode (flag_at s 1)))
    (cond (eqb k 5) (Some (SetSensitivity (gate_of (flag_at s 1) (field_at 1 s 2)) (field_at 1 s 3) (field_at 1 s 4)))
    (cond (eqb k 6) (Some ReadFirmware)
    (cond (eqb k 7) (baud_command (field_at 1 s 1))
    (cond (eqb k 8) (Some FactoryReset)
    (cond (eqb k 9) (Some Restart)
    (cond (eqb k 10) (Some (Bluetooth (flag_at s 1)))
    (cond (eqb k 11) (Some ReadMac) None)))))))))))

abbrev pub command_in : List ℕ → Option Command
command_in s = numbered (field_at 1 s 0) s
