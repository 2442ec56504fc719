-- A target state and its byte.
use mathlib.Core.Path.{◌≡◌, refl}
use mathlib.Core.Bool.{false}
use Prim.Native.Nat.{ℕ, zero, suc, ◌%◌, ◌≤◌}
use native.Mathlib.Omega.{arith}
use borrow.Author.Tests.{ne_eqb}
use Rattle.target_state.specs.State.{by_bits, state_of, byte_of, state_max, moving_of, stationary_of}
use Rattle.target_state.specs.Claims.{Calibrating, Calibration}
use Rattle.target_state.specs.declared.TargetState.{TargetState}
use Rattle.target_state.specs.declared.TargetState.TheVariants.{None, Moving, Stationary, Both}
use Rattle.target_state.specs.declared.TargetState.TheVariants.{CalibrationRunning, CalibrationDone}
use Rattle.target_state.specs.declared.TargetState.TheVariants.{CalibrationFailed}

-- For every byte but the three of calibration, the two lowest bits decide.
state_bits : (b : ℕ) → (Calibrating b → ⊥) → state_of b ≡ by_bits (b % 4)
unfolding state_of
state_bits b h =
    let not-4 = ne_eqb b 4 (λ e. h (omega arith, omega arith)) in
    let not-5 = ne_eqb b 5 (λ e. h (omega arith, omega arith)) in
    let not-6 = ne_eqb b 6 (λ e. h (omega arith, omega arith)) in
    rw (not-4, not-5, not-6)

-- Every state is read from its byte.
pub state_byte_lem : (t : TargetState) → state_of (byte_of t) ≡ t
unfolding state_of
state_byte_lem None = refl
state_byte_lem Moving = refl
state_byte_lem Stationary = refl
state_byte_lem Both = refl
state_byte_lem CalibrationRunning = refl
state_byte_lem CalibrationDone = refl
state_byte_lem CalibrationFailed = refl

-- The byte of a state is at most `state_max`, and a byte up to `state_max` is the byte of its state.
pub byte_most : (t : TargetState) → byte_of t ≤ state_max
byte_most None = omega arith
byte_most Moving = omega arith
byte_most Stationary = omega arith
byte_most Both = omega arith
byte_most CalibrationRunning = omega arith
byte_most CalibrationDone = omega arith
byte_most CalibrationFailed = omega arith

pub byte_kept : (b : ℕ) → b ≤ state_max → byte_of (state_of b) ≡ b
unfolding state_of
byte_kept zero h = refl
byte_kept (suc zero) h = refl
byte_kept (suc (suc zero)) h = refl
byte_kept (suc (suc (suc zero))) h = refl
byte_kept (suc (suc (suc (suc zero)))) h = refl
byte_kept (suc (suc (suc (suc (suc zero))))) h = refl
byte_kept (suc (suc (suc (suc (suc (suc zero)))))) h = refl
byte_kept (suc (suc (suc (suc (suc (suc (suc b))))))) h = absurd (omega arith)

-- A state of calibration has no target.
no_target : (t : TargetState) → 4 ≤ byte_of t → (moving_of t ≡ false) × (stationary_of t ≡ false)
no_target None h = absurd (omega arith)
no_target Moving h = absurd (omega arith)
no_target Stationary h = absurd (omega arith)
no_target Both h = absurd (omega arith)
no_target CalibrationRunning h = (refl, refl)
no_target CalibrationDone h = (refl, refl)
no_target CalibrationFailed h = (refl, refl)

pub calibration : (b : ℕ) → Calibration b (state_of b)
unfolding state_of
calibration b = record {
  running = λ e. rw e;
  done = λ e. rw e;
  failed = λ e. rw e;
  untargeted = λ h. no_target (state_of b) (omega (arith, byte_kept b h.1));
  unseen = λ h. let off = no_target (state_of b) (omega (arith, byte_kept b h.1)) in rw (off.0, off.1);
  old = state_bits b;
}
