-- A place, reset if it is out of range.
use mathlib.Core.Path.{◌≡◌, refl}
use mathlib.Core.Bool.{Bool, true, false, cond}
use Prim.Native.Nat.{ℕ, ◌≤◌, ◌<◌}
use native.Mathlib.Omega.{arith}
use lib.Dec.{leb}
use borrow.Author.Tests.{le-leb, lt-leb, leb-true}
use Rattle.ld2450_parser.specs.Feed.{or_reset}

pub or_reset_same : (n : ℕ) → n ≤ 29 → or_reset n ≡ n
unfolding or_reset
or_reset_same n u = rw (le-leb n 29 u)

pub or_reset_out : (n : ℕ) → 29 < n → or_reset n ≡ 0
unfolding or_reset
or_reset_out n o = rw (lt-leb n 29 o)

pub or_reset_range : (n : ℕ) → or_reset n ≤ 29
unfolding or_reset
or_reset_range n = go (leb n 29) refl
  where
    go : (x : Bool) → leb n 29 ≡ x → cond x n 0 ≤ 29
    go true e = leb-true n 29 e
    go false e = omega arith

pub or_reset_twice : (n : ℕ) → or_reset (or_reset n) ≡ or_reset n
or_reset_twice n = or_reset_same (or_reset n) (or_reset_range n)
