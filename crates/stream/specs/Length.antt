-- The data lengths that the stream takes.
--   link_limit         the largest length of document 01
--   InRange limit n    the length n is 2 to `limit`; in_range is the same as a test
use Rattle.std.specs.Prelude.{Bool, ◌&&◌, ℕ, ◌≤◌, leb}

abbrev pub link_limit : ℕ
link_limit = 54

abbrev pub InRange : ℕ → ℕ → Type 0
InRange limit n = (2 ≤ n) × (n ≤ limit)

abbrev pub in_range : ℕ → ℕ → Bool
in_range limit n = leb 2 n && leb n limit
