-- Which values get 2. Request 7: "Give 2 for a farthest gate of 0 or 1, in the place where gates above 8 get it".
-- Document 01, point 6: "Gates run 0 to 8, sensitivities 0 to 100."
--   TooNear i           the farthest gate i is 0 or 1
--   TooFar i            the farthest gate i is above 8
--   Outside i           the farthest gate i is either: "outside the paper's range"
--   FarthestGates c r   if the command c is a `SetMaxGates`, the answer r is 2 exactly if its moving or its stationary
--                       gate is outside
--   Missing g           the gate g is a number above 8, and not "FFFF for all"
--   TooHigh x           the sensitivity x is above 100
--   Sensitivities c r   if the command c is a `SetSensitivity`, the answer r is 2 exactly if its gate is missing or one
--                       of its sensitivities is too high
use Rattle.std.specs.Prelude.{◌≡◌, ◌↔◌, ◌⊎◌, ℕ, ◌≤◌, ◌<◌}
use Rattle.std.specs.declared.result.Result.{Result}
use Rattle.refusal.specs.Refusal.{refusal_of}
use Rattle.refusal.specs.declared.Error.{Error}
use Rattle.command.specs.declared.Command.{Command}
use Rattle.command.specs.declared.Command.TheVariants.{SetMaxGates, SetSensitivity}
use Rattle.command.specs.declared.setting.Gate.{Gate}
use Rattle.command.specs.declared.setting.Gate.TheVariants.{Index, All}

abbrev pub TooNear : ℕ → Type 0
TooNear i = i < 2

abbrev pub TooFar : ℕ → Type 0
TooFar i = 8 < i

abbrev pub Outside : ℕ → Type 0
Outside i = TooNear i ⊎ TooFar i

-- The seconds are a number of two bytes.
abbrev pub FarthestGates : Command → Result ℕ Error → Type 0
FarthestGates c r = (m s n : ℕ) → n ≤ 65535 → c ≡ SetMaxGates m s n → (refusal_of r ≡ 2 ↔ Outside m ⊎ Outside s)

abbrev pub Missing : Gate → Type 0
Missing (Index i) = 8 < i
Missing All = ⊥

abbrev pub TooHigh : ℕ → Type 0
TooHigh x = 100 < x

abbrev pub Sensitivities : Command → Result ℕ Error → Type 0
Sensitivities c r = (g : Gate) (m s : ℕ) → c ≡ SetSensitivity g m s
    → (refusal_of r ≡ 2 ↔ Missing g ⊎ (TooHigh m ⊎ TooHigh s))
