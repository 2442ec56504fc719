-- Request 7: "the command reader gives 5 for such bytes".
--   NearGates b r   the answer r to the bytes b is 5 if they are the frame of a `SetMaxGates` with a farthest gate,
--                   moving or stationary, of 0 or 1
use Rattle.std.specs.Prelude.{◌≡◌, ◌⊎◌, List, ℕ}
use Rattle.std.specs.declared.result.Result.{Result}
use Rattle.refusal.specs.declared.Error.{Error}
use Rattle.command.specs.declared.Command.{Command}
use Rattle.command.specs.Command.{command_frame}
use Rattle.command.specs.Claims.{TooNear}
use Rattle.command.specs.declared.Command.TheVariants.{SetMaxGates}
use Rattle.command_reader.specs.Read.{returned_read}

abbrev pub NearGates : List ℕ → Result Command Error → Type 0
NearGates b r = (m s n : ℕ) → TooNear m ⊎ TooNear s → b ≡ command_frame (SetMaxGates m s n)
    → (returned_read r).number ≡ 5
