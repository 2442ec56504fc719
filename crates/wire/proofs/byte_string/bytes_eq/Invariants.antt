-- `wire::bytes_eq` meets its contract. The loop's invariant: the slices agree up to i. Assumes nothing.
use mathlib.Core.Path.{◌≡◌}
use Prim.Native.Nat.{◌≤◌}
use lib.ListN.{length, take}
use Rattle.wire.proofs.byte_string.bytes_eq.Given as goal

abbrev pub invariant-loop-i : goal.invariant-loop-i
invariant-loop-i l = (length l.a ≡ length l.b) × (l.i ≤ length l.a) × (take l.i l.a ≡ take l.i l.b)
