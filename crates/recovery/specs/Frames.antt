-- The frames of a stream, one after another.
--   Lies s a p b   p is the frame of the bytes s from the place a to the place b, which is behind a and not past the
--                  end: it has the bytes between, at least one
use Rattle.std.specs.Prelude.{◌≡◌, List, ℕ, ◌<◌, ◌≤◌, length, slice_range}
use Rattle.recovery.specs.declared.frames.Placed.{Placed}

abbrev pub Lies : List ℕ → ℕ → Placed → ℕ → Type 0
Lies s a p b = (p.start ≡ a) × (a < b) × (b ≤ length s) × (0 < length p.frame.now) × (p.frame.now ≡ slice_range s a b)
