-- A byte tried as a new start: it begins a header, or is dropped.
use mathlib.Core.Path.{◌≡◌, ap}
use Prim.Native.Nat.{ℕ}
use Rattle.wire.specs.Family.{starting_with}
use Rattle.wire.specs.declared.Kind.{Kind}
use Rattle.std.specs.Prelude.{Some, None}
use Rattle.scan.specs.Scan.{at, hunting}
use Rattle.scan.specs.declared.State.TheVariants.{Header}
use Rattle.scan.specs.Start.{continued, dropping, start_as, start_of}
use Rattle.scan.specs.declared.stats.Stats.{Stats}

module _ (st : Stats) (b : ℕ) where
  pub start_some : (k : Kind) → starting_with b ≡ Some k → start_of st b ≡ continued (at Header k 1 0 0) st
  unfolding start_of
  start_some k e = ap (start_as st) e

  pub start_none : starting_with b ≡ None → start_of st b ≡ continued hunting (dropping st 1)
  unfolding start_of
  start_none e = ap (start_as st) e
