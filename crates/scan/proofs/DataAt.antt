-- The scan after p of n data bytes: in the data, or in the tail.
use mathlib.Core.Path.{◌≡◌}
use Prim.Native.Nat.{ℕ, ◌≤◌, ◌<◌}
use borrow.Author.Tests.{lt-ltb, le-ltb}
use Rattle.wire.specs.declared.Kind.{Kind}
use Rattle.scan.specs.Scan.{at, data_at}
use Rattle.scan.specs.declared.State.TheVariants.{Data, Tail}

module _ (k : Kind) (n p : ℕ) where
  pub data_some : p < n → data_at k n p ≡ at Data k 0 n p
  data_some l = rw (lt-ltb p n l)

  pub data_whole : n ≤ p → data_at k n p ≡ at Tail k 0 n n
  data_whole l = rw (le-ltb p n l)
