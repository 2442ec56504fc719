-- The bytes of a report's data after the basic ones.
use mathlib.Core.Path.{◌≡◌}
use mathlib.Core.List.{List}
use Prim.Native.Nat.{ℕ, ◌+◌, ◌-◌, ◌≤◌}
use native.Mathlib.Omega.{arith}
use lib.ListN.{length, take, drop, length-take, length-drop}
use lib.Seq.{take-add, drop_at, drop-drop}
use Rattle.report.specs.Layout.{block}

-- The bytes after the basic ones, as the code cuts them out.
pub block_part : (s : List ℕ) → 13 ≤ length s → take (length s - 2 - 11) (drop 11 s) ≡ block s
block_part s h =
    let b = drop 2 s in
    let m = length s - 2 - 11 in
    let n : length s - 4 ≡ 9 + m = omega arith in
    let nine : length (take 9 b) ≡ 9 = simp (length-take, length-drop) (omega arith) in
    rw (n, take-add 9 m b, drop_at (take 9 b) (take m (drop 9 b)) 9 nine, drop-drop 9 2 s)
