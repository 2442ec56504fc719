-- Bounds from the types of a report's fields: an energy is one byte, a distance two, and each array has its length and
-- holds bytes. They follow from owning a parameter of the type.
use mathlib.Core.Path.{◌≡◌}
use mathlib.Core.List.{List, [], ◌∷◌}
use Prim.Native.Nat.{ℕ, ◌<◌}
use native.Mathlib.Omega.{arith}
use lib.ListN.{length}
use mir.Syntax.{w8}
use mir.Val.{Val}
use denote.Laws.{Is}
use denote.Shadow.{shadow}
use denote.Plain.{UInt}
use denote.Array.{Array, each}
use denote.Struct.Declared.{row}
use Rattle.wire.specs.Bytes.{Bytes}
use Rattle.engineering.specs.declared.Engineering.{Engineering}
use Rattle.report.specs.declared.Report.{Report}
use Rattle.engineering.specs.contracts.Engineering as E
use Rattle.report.specs.contracts.Report as R

-- An array of n bytes.
pub record Held (n : ℕ) (s : List ℕ) : Type 0 where
  pub size : length s ≡ n
  pub bytes : Bytes s

each_bytes : (s : List ℕ) (vs : List Val) → shadow (each ℕ (UInt w8).own_val s vs) → Bytes s
each_bytes [] vs h = tt
each_bytes (b ∷ s) [] h = absurd h
each_bytes (b ∷ s) (v ∷ vs) h = (omega (arith, h.0.1), each_bytes s vs h.1)

held : (n : ℕ) (s : List ℕ) (vs : List Val) → Is (Array (UInt w8) n) s vs → Held n s
held n s vs h = record {
  size = omega (arith, h.1.0.1);
  bytes = each_bytes s h.0 h.1.1;
}

pub record TypedBlock (e : Engineering) : Type 0 where
  pub moving_energy_lem : Held 9 e.moving_energy
  pub stationary_energy_lem : Held 9 e.stationary_energy
  pub extra : Held 8 e.extra

pub block_typed : (e : Engineering) (vs : List Val) → Is (row E.the_type) e vs → TypedBlock e
block_typed e vs h = record {
  moving_energy_lem = held 9 e.moving_energy _ h.1.1.1.1.0;
  stationary_energy_lem = held 9 e.stationary_energy _ h.1.1.1.1.1.0;
  extra = held 8 e.extra _ h.1.1.1.1.1.1.0;
}

pub record TypedReport (r : Report) : Type 0 where
  pub moving_distance : r.moving_distance_cm < 65536
  pub moving_energy_lem : r.moving_energy < 256
  pub stationary_distance : r.stationary_distance_cm < 65536
  pub stationary_energy_lem : r.stationary_energy < 256
  pub detection_distance : r.detection_distance_cm < 65536
  pub engineering : TypedBlock r.engineering

pub report_typed : (r : Report) (vs : List Val) → Is (row R.the_type) r vs → TypedReport r
report_typed r vs h = record {
  moving_distance = omega (arith, h.1.1.0.1);
  moving_energy_lem = omega (arith, h.1.1.1.1.1.1.0.1);
  stationary_distance = omega (arith, h.1.1.1.0.1);
  stationary_energy_lem = omega (arith, h.1.1.1.1.1.1.1.0.1);
  detection_distance = omega (arith, h.1.1.1.1.0.1);
  engineering = block_typed r.engineering _ h.1.1.1.1.1.1.1.1.1.0;
}
