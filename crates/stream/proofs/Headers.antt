-- The tests of a string that begins with a header are `reads_length` of what follows it.
use mathlib.Core.Path.{◌≡◌, refl}
use mathlib.Core.List.{List, ◌++◌}
use mathlib.Core.Bool.{true, false}
use Prim.Native.Nat.{ℕ}
use Rattle.wire.specs.Family.{header}
use Rattle.wire.specs.declared.Kind.{Kind}
use Rattle.wire.specs.declared.Kind.TheVariants.{Report, Command}
use Rattle.stream.proofs.Scan.{reads_length, reads, opens, wholes}

module _ (limit : ℕ) where
  pub opens_header : (k : Kind) (r : List ℕ) → opens limit (header k ++ r) ≡ reads_length true limit k r
  unfolding opens reads
  opens_header Report r = refl
  opens_header Command r = refl

  pub wholes_header : (k : Kind) (r : List ℕ) → wholes limit (header k ++ r) ≡ reads_length false limit k r
  unfolding wholes reads
  wholes_header Report r = refl
  wholes_header Command r = refl
