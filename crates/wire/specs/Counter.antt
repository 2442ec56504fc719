-- The parser's counters: "`bump` saturates"; request 1: "Make all four counters 64 bits wide; they stop at the largest
-- 64-bit value."
--   counter_max   the largest 64-bit value, where a counter stops
--   bumped c n   the counter c after counting n more
use Rattle.std.specs.Prelude.{ℕ, ◌+◌, min}

abbrev pub counter_max : ℕ
counter_max = 18446744073709551615

unfoldable pub bumped : ℕ → ℕ → ℕ
bumped c n = min (c + n) counter_max
