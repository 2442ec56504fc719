-- What a byte does: a data byte's step in one term, and any step in a known state.
use mathlib.Core.Path.{◌≡◌, refl}
use mathlib.Core.List.{List}
use mathlib.Core.Bool.{Bool, true, false, cond}
use Prim.Native.Nat.{ℕ, ◌+◌}
use lib.Dec.{ltb}
use Rattle.wire.specs.declared.Kind.{Kind}
use Rattle.scan.specs.Scan.{at, data_at}
use Rattle.scan.specs.Start.{continued}
use Rattle.step.specs.Step.{step_data, step_in_state, step_of, stored_in, stored}
use Rattle.scan.specs.declared.State.{State}
use Rattle.scan.specs.declared.State.TheVariants.{Header, Len, Data, Tail}
use Rattle.scan.specs.declared.Scan.{Scan}
use Rattle.scan.specs.declared.stats.Stats.{Stats}
use Rattle.scan.specs.declared.stats.Stepped.{Stepped}

module _ (st : Stats) (k : Kind) (n p : ℕ) where
  pub data_step : step_data k n p st ≡ continued (data_at k n (p + 1)) st
  data_step = go (ltb (p + 1) n)
    where
      go : (x : Bool) → cond x (continued (at Data k 0 n (p + 1)) st) (continued (at Tail k 0 n n) st)
          ≡ continued (cond x (at Data k 0 n (p + 1)) (at Tail k 0 n n)) st
      go true = refl
      go false = refl

-- The step and the buffer, in a known state.
module _ (c : Scan) (s : State) (e : c.state ≡ s) (b : ℕ) where
  pub step_as : (limit : ℕ) (st : Stats)
      → step_in_state limit s c.kind c.matched c.len c.pos st b ≡ step_of limit c st b
  unfolding step_of
  step_as limit st = rw e

  pub stored_as : (buf : List ℕ) → stored_in s c.pos buf b ≡ stored c buf b
  unfolding stored
  stored_as buf = rw e

pub stored_other : (c : Scan) (b : ℕ) (buf : List ℕ) → (c.state ≡ Data → ⊥) → buf ≡ stored c buf b
unfolding stored
stored_other c b buf n = go c.state refl
  where
    go : (s : State) → c.state ≡ s → buf ≡ stored_in s c.pos buf b
    go Header e = refl
    go Len e = refl
    go Data e = absurd (n e)
    go Tail e = refl

-- What holds of both branches holds of the one that a test picks.
pub either : (P : Stepped → Type 0) (x : Bool) (r s : Stepped) → (x ≡ true → P r) → (x ≡ false → P s)
    → P (cond x r s)
either P true r s f g = f refl
either P false r s f g = g refl
