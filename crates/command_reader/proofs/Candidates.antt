-- The candidate for the frame of a command that the module takes is that command.
use mathlib.Core.Path.{◌≡◌, refl, ap}
use mathlib.Core.List.{[], ◌∷◌}
use mathlib.Core.Bool.{true, false, ◌&&◌, and-eq-true_iff}
use Prim.Native.Nat.{ℕ, ◌/◌, ◌%◌, ◌≤◌}
use native.Mathlib.Omega.{arith}
use lib.Dec.{leb}
use borrow.Author.Tests.{leb-true, ne_eqb}
use Rattle.wire.specs.Number.{little, number_at}
use Rattle.wire.specs.Family.{framed}
use Rattle.wire.proofs.Bytes.{little_two}
use Rattle.command.specs.Setting.{gate_value, gate_known, farthest, sensitivity}
use Rattle.cursor.specs.CommandFrame.{data_with}
use Rattle.command.specs.Command.{command_frame, encodable}
use Rattle.command_reader.specs.CommandFrame.{number_in}
use Rattle.command_reader.specs.Candidate.{gate_for, baud_for, candidate, candidate_in}
use Rattle.command.proofs.Farthest.{farthest_most}
use Rattle.command.specs.declared.setting.Gate.{Gate}
use Rattle.command.specs.declared.setting.Gate.TheVariants.{Index, All}
use Rattle.command.specs.declared.setting.Baud.{Baud}
use Rattle.command.specs.declared.setting.Baud.TheVariants.{B9600, B19200, B38400, B57600}
use Rattle.command.specs.declared.setting.Baud.TheVariants.{B115200, B230400, B256000, B460800}
use Rattle.command.specs.declared.Command.{Command}
use Rattle.command.specs.declared.Command.TheVariants.{EnableConfig, EndConfig, SetMaxGates, ReadParameters}
use Rattle.command.specs.declared.Command.TheVariants.{EngineeringMode, SetSensitivity, ReadFirmware, SetBaud}
use Rattle.command.specs.declared.Command.TheVariants.{FactoryReset, Restart, Bluetooth, ReadMac}

-- A number below 256 is the low byte of the number that its two bytes make.
pub low_byte : (x : ℕ) → x ≤ 255 → little (x % 256 ∷ x / 256 % 256 ∷ []) % 256 ≡ x
low_byte x h = omega arith

gate_back : (g : Gate) → gate_known g ≡ true
    → gate_for (little (gate_value g % 256 ∷ gate_value g / 256 % 256 ∷ [])) ≡ g
unfolding gate_for
gate_back (Index i) e =
    let h = leb-true i 8 e in
    rw (little_two i (omega arith), ne_eqb i 0xFFFF (λ q. omega arith))
    (ap Index (omega arith))
gate_back All e = refl

baud_back : (b : Baud) → candidate_in (command_frame (SetBaud b)) ≡ SetBaud b
unfolding candidate_in number_in number_at candidate baud_for framed data_with
baud_back B9600 = refl
baud_back B19200 = refl
baud_back B38400 = refl
baud_back B57600 = refl
baud_back B115200 = refl
baud_back B230400 = refl
baud_back B256000 = refl
baud_back B460800 = refl

pub candidate_written : (c : Command) → encodable c ≡ true → candidate_in (command_frame c) ≡ c
unfolding candidate_in number_in number_at candidate framed data_with
candidate_written EnableConfig e = refl
candidate_written EndConfig e = refl
candidate_written (SetMaxGates m s n) e =
    let a = (and-eq-true_iff (leb n 65535) (farthest m && farthest s)).0 e in
    let b = (and-eq-true_iff (farthest m) (farthest s)).0 a.1 in
    rw (
      low_byte m (omega (arith, farthest_most m b.0)),
      low_byte s (omega (arith, farthest_most s b.1)),
      little_two n (omega (arith, leb-true n 65535 a.0)),
    )
candidate_written ReadParameters e = refl
candidate_written (EngineeringMode true) e = refl
candidate_written (EngineeringMode false) e = refl
candidate_written (SetSensitivity g m s) e =
    let a = (and-eq-true_iff (gate_known g) (sensitivity m && sensitivity s)).0 e in
    let b = (and-eq-true_iff (sensitivity m) (sensitivity s)).0 a.1 in
    rw (
      gate_back g a.0,
      low_byte m (omega (arith, leb-true m 100 b.0)),
      low_byte s (omega (arith, leb-true s 100 b.1)),
    )
candidate_written ReadFirmware e = refl
candidate_written (SetBaud b) e = baud_back b
candidate_written FactoryReset e = refl
candidate_written Restart e = refl
candidate_written (Bluetooth true) e = refl
candidate_written (Bluetooth false) e = refl
candidate_written ReadMac e = refl
