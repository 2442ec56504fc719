-- Bounds on a target's fields, and the length of an array of three targets, from owning a parameter of the type.
use mathlib.Core.Path.{◌≡◌}
use mathlib.Core.List.{List, [], ◌∷◌}
use Prim.Native.Nat.{◌<◌}
use native.Mathlib.Omega.{arith}
use lib.ListN.{length}
use lib.Signed.{mag}
use mir.Val.{Val}
use denote.Laws.{Is}
use denote.Shadow.{shadow}
use denote.Array.{Array, each}
use denote.Struct.Declared.{row}
use Rattle.wire.specs.Bytes.{Every}
use Rattle.ld2450.specs.declared.targets.Target.{Target}
use Rattle.ld2450.specs.contracts.targets.Target as T

pub record TypedTarget (t : Target) : Type 0 where
  pub x : mag t.x < 32768
  pub y : mag t.y < 32768
  pub speed : mag t.speed < 32768
  pub resolution : t.resolution < 65536

target_typed : (t : Target) (vs : List Val) → Is (row T.the_type) t vs → TypedTarget t
target_typed t vs h = record {
  x = omega (arith, h.1.1.1.0.1);
  y = omega (arith, h.1.1.1.1.0.1);
  speed = omega (arith, h.1.1.1.1.1.0.1);
  resolution = omega (arith, h.1.1.1.1.1.1.0.1);
}

each_typed : (ts : List Target) (vs : List Val) → shadow (each Target (row T.the_type).own_val ts vs)
    → Every TypedTarget ts
each_typed [] vs h = tt
each_typed (t ∷ ts) [] h = absurd h
each_typed (t ∷ ts) (v ∷ vs) h = (target_typed t _ h.0, each_typed ts vs h.1)

pub record TypedTargets (ts : List Target) : Type 0 where
  pub size : length ts ≡ 3
  pub each : Every TypedTarget ts

pub targets_typed : (ts : List Target) (vs : List Val) → Is (Array (row T.the_type) 3) ts vs → TypedTargets ts
targets_typed ts vs h = record { size = h.1.0.1; each = each_typed ts h.0 h.1.1 }
