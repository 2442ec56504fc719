-- Request 3: "Decode these three as states of their own, without any target .. Report reading .. follow".
--   Untargeted r     the report r has no target
--   Calibrated s r   if the state byte of the data s is one of the three, their report r has no target
use Rattle.std.specs.Prelude.{◌≡◌, false, List, ℕ, None}
use Rattle.target_state.specs.State.{present_of}
use Rattle.target_state.specs.Claims.{Calibrating}
use Rattle.report.specs.Layout.{state_in}
use Rattle.report.specs.Report.{moving_target, stationary_target}
use Rattle.report.specs.declared.Report.{Report}

abbrev pub Untargeted : Report → Type 0
Untargeted r = (moving_target r ≡ None) × ((stationary_target r ≡ None) × (present_of r.state ≡ false))

abbrev pub Calibrated : List ℕ → Report → Type 0
Calibrated s r = Calibrating (state_in s) → Untargeted r
