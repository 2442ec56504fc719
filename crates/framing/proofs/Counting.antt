-- What the theory needs of counters: an unfinished end adds nothing to them.
--   Counting K     what each piece adds to each of the counters K, with that law
--   total C k ps   what the pieces ps add to the counter k
use mathlib.Core.Path.{◌≡◌}
use mathlib.Core.List.{List}
use Prim.Native.Nat.{ℕ}
use Rattle.framing.specs.Piece.{Piece, unfinished}
use Rattle.framing.specs.Tally.{sum}

pub record Counting (K : Type 0) : Type 0 where
  pub adds : K → Piece → ℕ
  pub cut_adds_nothing : (k : K) (s : List ℕ) → adds k (unfinished s) ≡ 0

abbrev pub total : {K : Type 0} → Counting K → K → List Piece → ℕ
total C k ps = sum (C.adds k) ps
