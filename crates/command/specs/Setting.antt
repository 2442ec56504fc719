-- Gates, sensitivities and baud rates: what a command's values may be, and how they are written.
--   gate_value g     the value for a gate: "gate (hexadecimal FFFF for all)"
--   farthest i      whether the gate i may be a farthest gate of `SetMaxGates`
--   gate_known g     whether g is a gate that the module has, or all gates
--   sensitivity x   whether x is a sensitivity
--   index_of b       the selection index of the baud rate b, "index 1 to 8"
--   baud_of i        the baud rate with the selection index i, if there is one
--   rate_of b        the bits per second of the baud rate b
use Rattle.std.specs.Prelude.{Bool, true, cond, ◌&&◌, ℕ, eqb, leb, Some, None}
use Rattle.std.specs.declared.option.Option.{Option}
use Rattle.command.specs.declared.setting.Gate.{Gate}
use Rattle.command.specs.declared.setting.Gate.TheVariants.{Index, All}
use Rattle.command.specs.declared.setting.Baud.{Baud}
use Rattle.command.specs.declared.setting.Baud.TheVariants.{B9600, B19200, B38400, B57600}
use Rattle.command.specs.declared.setting.Baud.TheVariants.{B115200, B230400, B256000, B460800}

abbrev pub gate_value : Gate → ℕ
gate_value (Index i) = i
gate_value All = 0xFFFF

-- "The paper gives `SetMaxGates` as 2 to 8"; request 7: "Give 2 for a farthest gate of 0 or 1, in the place
-- where gates above 8 get it"
abbrev pub farthest : ℕ → Bool
farthest i = leb 2 i && leb i 8

-- "Gates run 0 to 8", "hexadecimal FFFF for all"
abbrev pub gate_known : Gate → Bool
gate_known (Index i) = leb i 8
gate_known All = true

-- "sensitivities 0 to 100"
abbrev pub sensitivity : ℕ → Bool
sensitivity x = leb x 100

abbrev pub index_of : Baud → ℕ
index_of B9600 = 1
index_of B19200 = 2
index_of B38400 = 3
index_of B57600 = 4
index_of B115200 = 5
index_of B230400 = 6
index_of B256000 = 7
index_of B460800 = 8

abbrev pub baud_of : ℕ → Option Baud
baud_of i =
    cond (eqb i 1) (Some B9600)
    (cond (eqb i 2) (Some B19200)
    (cond (eqb i 3) (Some B38400)
    (cond (eqb i 4) (Some B57600)
    (cond (eqb i 5) (Some B115200)
    (cond (eqb i 6) (Some B230400)
    (cond (eqb i 7) (Some B256000)
    (cond (eqb i 8) (Some B460800) None)))))))

abbrev pub rate_of : Baud → ℕ
rate_of B9600 = 9600
rate_of B19200 = 19200
rate_of B38400 = 38400
rate_of B57600 = 57600
rate_of B115200 = 115200
rate_of B230400 = 230400
rate_of B256000 = 256000
rate_of B460800 = 460800
