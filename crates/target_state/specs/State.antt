-- The target state: "State uses its two lowest bits only"; and request 3: "state 04 to background calibration running,
-- 05 to done, 06 to failed", "bytes 07 and above keep the old rule".
--   by_bits n    the state by two bits, as a number n: 0 none, 1 moving, 2 stationary, 3 both
--   state_of b   the state that the byte b is read as
--   byte_of t    the byte that is written for the state t
--   state_max    the largest of these bytes
--   moving_of t, stationary_of t, present_of t   whether the state t has a moving target, a stationary one, either
use Rattle.std.specs.Prelude.{Bool, true, false, cond, ◌||◌, ℕ, zero, suc, ◌%◌, eqb}
use Rattle.target_state.specs.declared.TargetState.{TargetState}
use Rattle.target_state.specs.declared.TargetState.TheVariants.{None, Moving, Stationary, Both}
use Rattle.target_state.specs.declared.TargetState.TheVariants.{CalibrationRunning, CalibrationDone}
use Rattle.target_state.specs.declared.TargetState.TheVariants.{CalibrationFailed}

abbrev pub by_bits : ℕ → TargetState
by_bits zero = None
by_bits (suc zero) = Moving
by_bits (suc (suc zero)) = Stationary
by_bits (suc (suc (suc n))) = Both

unfoldable pub state_of : ℕ → TargetState
state_of b =
    cond (eqb b 0x04) CalibrationRunning
    (cond (eqb b 0x05) CalibrationDone
    (cond (eqb b 0x06) CalibrationFailed (by_bits (b % 4))))

abbrev pub byte_of : TargetState → ℕ
byte_of None = 0
byte_of Moving = 1
byte_of Stationary = 2
byte_of Both = 3
byte_of CalibrationRunning = 4
byte_of CalibrationDone = 5
byte_of CalibrationFailed = 6

-- "equal bytes for states 0 to 6": these are the bytes that are written
abbrev pub state_max : ℕ
state_max = 6

abbrev pub moving_of : TargetState → Bool
moving_of None = false
moving_of Moving = true
moving_of Stationary = false
moving_of Both = true
moving_of CalibrationRunning = false
moving_of CalibrationDone = false
moving_of CalibrationFailed = false

abbrev pub stationary_of : TargetState → Bool
stationary_of None = false
stationary_of Moving = false
stationary_of Stationary = true
stationary_of Both = true
stationary_of CalibrationRunning = false
stationary_of CalibrationDone = false
stationary_of CalibrationFailed = false

abbrev pub present_of : TargetState → Bool
present_of t = moving_of t || stationary_of t
