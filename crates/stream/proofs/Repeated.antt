-- F4 is open and not whole; F4 F4 is not open.
use mathlib.Core.Path.{refl}
use mathlib.Core.List.{[], ◌∷◌}
use Prim.Native.Nat.{ℕ}
use Rattle.stream.specs.Open.{Open, Whole}
use Rattle.stream.proofs.Scan.{reads, opens, wholes}
use Rattle.stream.proofs.Link.{is_open, not_open, not_whole}

module _ (limit : ℕ) where
  pub opens_once : Open limit (0xF4 ∷ [])
  unfolding opens reads
  opens_once = is_open limit _ refl

  pub once_not_whole : ¬ Whole limit (0xF4 ∷ [])
  unfolding wholes reads
  once_not_whole = not_whole limit _ refl

  pub not_twice : ¬ Open limit (0xF4 ∷ 0xF4 ∷ [])
  unfolding opens reads
  not_twice = not_open limit _ refl
