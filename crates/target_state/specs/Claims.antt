-- Request 3: "state 04 to background calibration running, 05 to done, 06 to failed .. Decode these three as states of
-- their own, without any target; bytes 07 and above keep the old rule." They are states of their own by `kept` of
-- `TargetState::from_byte` too: each gives its byte back.
--   Calibrating b     the byte b is one of the three: 04, 05, 06
--   Calibration b t   what the request says of the state t that the byte b is read as
use Rattle.std.specs.Prelude.{◌≡◌, false, ℕ, ◌%◌, ◌≤◌}
use Rattle.target_state.specs.State.{by_bits, moving_of, stationary_of, present_of}
use Rattle.target_state.specs.declared.TargetState.{TargetState}
use Rattle.target_state.specs.declared.TargetState.TheVariants.{CalibrationRunning, CalibrationDone}
use Rattle.target_state.specs.declared.TargetState.TheVariants.{CalibrationFailed}

abbrev pub Calibrating : ℕ → Type 0
Calibrating b = (0x04 ≤ b) × (b ≤ 0x06)

pub record Calibration (b : ℕ) (t : TargetState) : Type 0 where
  -- "04 to background calibration running"
  pub running : b ≡ 0x04 → t ≡ CalibrationRunning
  -- "05 to done"
  pub done : b ≡ 0x05 → t ≡ CalibrationDone
  -- "06 to failed"
  pub failed : b ≡ 0x06 → t ≡ CalibrationFailed
  -- "without any target"
  pub untargeted : Calibrating b → (moving_of t ≡ false) × (stationary_of t ≡ false)
  pub unseen : Calibrating b → present_of t ≡ false
  -- "bytes 07 and above keep the old rule", and so do 00 to 03
  pub old : (Calibrating b → ⊥) → t ≡ by_bits (b % 4)
