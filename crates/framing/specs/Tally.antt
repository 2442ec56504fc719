-- What a piece adds to a counter, and what a division adds up to.
--   sum f ps        the sum of the numbers f over the pieces ps
--   resynced p      1 for a broken start: 01's resyncs
--   lost p          how many bytes a stray byte or a broken start has: 01's dropped
--   in_frames p      how many bytes a whole frame has
--   waiting p       how many bytes an unfinished end has
--   passed test p   1 for a whole frame that passes the test: 01's frames and malformed
-- Every other piece adds 0.
use Rattle.std.specs.Prelude.{List, [], ◌∷◌, Bool, cond, ℕ, ◌+◌, length}
use Rattle.framing.specs.Piece.{Piece, stray, broken, whole, unfinished}

abbrev pub sum : (Piece → ℕ) → List Piece → ℕ
sum f [] = 0
sum f (p ∷ ps) = f p + sum f ps

abbrev pub resynced : Piece → ℕ
resynced (stray b) = 0
resynced (broken s) = 1
resynced (whole s) = 0
resynced (unfinished s) = 0

abbrev pub lost : Piece → ℕ
lost (stray b) = 1
lost (broken s) = length s
lost (whole s) = 0
lost (unfinished s) = 0

abbrev pub in_frames : Piece → ℕ
in_frames (stray b) = 0
in_frames (broken s) = 0
in_frames (whole s) = length s
in_frames (unfinished s) = 0

abbrev pub waiting : Piece → ℕ
waiting (stray b) = 0
waiting (broken s) = 0
waiting (whole s) = 0
waiting (unfinished s) = length s

abbrev pub passed : (List ℕ → Bool) → Piece → ℕ
passed test (stray b) = 0
passed test (broken s) = 0
passed test (whole s) = cond (test s) 1 0
passed test (unfinished s) = 0
