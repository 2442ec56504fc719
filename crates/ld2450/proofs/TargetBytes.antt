-- A target read from its eight bytes, and which targets can be written.
use mathlib.Core.Path.{◌≡◌}
use mathlib.Core.List.{List}
use mathlib.Core.Bool.{true, ◌&&◌, and-eq-true_iff}
use Prim.Native.Nat.{ℕ, ◌<◌}
use lib.IntN.{ℤ}
use lib.ListN.{replicate}
use lib.Signed.{mag}
use mir.Syntax.{w16}
use mir.Val.{to_z, of_z}
use mir.ValLaws.{to_z-of_z}
use Rattle.wire.specs.Equal.{same_bytes}
use Rattle.ld2450.specs.Signed.{sayable}
use Rattle.ld2450.specs.Target.{absent, target_of}
use Rattle.ld2450.specs.Bytes.{writable}
use Rattle.ld2450.specs.declared.targets.Target.{Target}

-- A number that fits is read back from its bits.
pub back : (z : ℤ) → mag z < 32768 → to_z w16 (of_z w16 z) ≡ z
back z h = to_z-of_z w16 z (record { sfits = h })

pub target_absent : (b : List ℕ) → same_bytes b (replicate 8 0) ≡ true → absent ≡ target_of b
unfolding target_of
target_absent b e = rw e

-- Two bytes can say each signed field of a present target that can be written.
pub record Said (t : Target) : Type 0 where
  pub x : sayable t.x ≡ true
  pub y : sayable t.y ≡ true
  pub speed : sayable t.speed ≡ true

pub writable_said : (t : Target) → t.present ≡ true → writable t ≡ true → Said t
unfolding writable
writable_said t there e =
    let h = (and-eq-true_iff (sayable t.x) (sayable t.y && sayable t.speed)).0 (rw there at e) in
    let k = (and-eq-true_iff (sayable t.y) (sayable t.speed)).0 h.1 in
    record { x = h.0; y = k.0; speed = k.1 }
