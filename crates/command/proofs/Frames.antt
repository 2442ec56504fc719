-- The frames of commands: how long they are, and when they are encodable.
use mathlib.Core.Path.{◌≡◌}
use mathlib.Core.Bool.{◌&&◌}
use Prim.Native.Nat.{ℕ, ◌≤◌}
use native.Mathlib.Omega.{arith}
use lib.ListN.{length}
use borrow.Author.Tests.{le-leb}
use Rattle.cursor.specs.CommandFrame.{size_with}
use Rattle.cursor.specs.declared.command_frame.Value.{Value}
use Rattle.cursor.specs.declared.command_frame.Value.TheVariants as Of
use Rattle.cursor.proofs.CommandFrame.{frame_size}
use Rattle.command.specs.Setting.{farthest}
use Rattle.command.specs.Command.{word_of, value_of, command_frame, encodable}
use Rattle.command.specs.declared.Command.{Command}
use Rattle.command.specs.declared.Command.TheVariants.{SetMaxGates}

-- A frame has 12 to 30 bytes.
size-bounds : (v : Value) → (12 ≤ size_with v) × (size_with v ≤ 30)
size-bounds Of.None = (omega arith, omega arith)
size-bounds (Of.Number v) = (omega arith, omega arith)
size-bounds (Of.Records a b c) = (omega arith, omega arith)

pub frame_bounds : (c : Command) → (12 ≤ length (command_frame c)) × (length (command_frame c) ≤ 30)
frame_bounds c = rw (frame_size (word_of c) (value_of c)) at (size-bounds (value_of c))

-- The type of the seconds limits them, so only the gates decide.
pub gates_encodable : (m s n : ℕ) → n ≤ 65535 → encodable (SetMaxGates m s n) ≡ (farthest m && farthest s)
gates_encodable m s n h = rw (le-leb n 65535 h)
