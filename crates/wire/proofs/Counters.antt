-- Counters that stop at a maximum.
use mathlib.Core.Path.{◌≡◌}
use Prim.Native.Nat.{ℕ, ◌+◌, ◌≤◌, min}
use native.Mathlib.Omega.{arith}
use Rattle.wire.specs.Counter.{counter_max, bumped}

-- To count m and then n is to count their sum.
pub capped_append : (max c m n : ℕ) → min (min (c + m) max + n) max ≡ min (c + (m + n)) max
capped_append max c m n = omega arith

pub bumped_append : (c m n : ℕ) → bumped (bumped c m) n ≡ bumped c (m + n)
unfolding bumped
bumped_append c m n = capped_append counter_max c m n

pub bumped_nil : (c : ℕ) → c ≤ counter_max → bumped c 0 ≡ c
unfolding bumped
bumped_nil c h = omega arith

pub bumped_most : (c n : ℕ) → bumped c n ≤ counter_max
unfolding bumped
bumped_most c n = omega arith
