-- How often a stream can break: n bytes have at most n - 1 broken starts, and some streams have as many.
use mathlib.Core.Path.{◌≡◌, refl, ap, ◌∙◌}
use mathlib.Core.Logic.{◌≢◌}
use mathlib.Core.List.{List, [], ◌∷◌, cons≢nil}
use Prim.Native.Nat.{ℕ, zero, suc, ◌-◌, ◌≤◌, ◌<◌}
use native.Mathlib.Omega.{arith}
use lib.ListN.{length, length-append, replicate}
use Rattle.framing.proofs.Framing.{Framing, Divides}
use Rattle.framing.specs.Piece.{Piece, broken, unfinished}
use Rattle.framing.specs.Division.{is_empty, is_stray, is_broken, is_whole, is_unfinished}
use Rattle.framing.specs.Tally.{resynced, sum}
use Rattle.framing.proofs.Scanned.{division_unique}

pub filled : (s : List ℕ) → s ≢ [] → 0 < length s
filled [] ne = absurd (ne refl)
filled (b ∷ s) ne = omega arith

module _ (F : Framing) where
  -- n bytes have at most n - 1 broken starts, and none if n is 0.
  pub resynced_bound : {s : List ℕ} {ps : List Piece} → Divides F s ps → sum resynced ps ≤ length s - 1
  resynced_bound is_empty = omega arith
  resynced_bound (is_stray n d) = omega (arith, resynced_bound d)
  resynced_bound (is_broken {s} {c} {t} ne o w n d) =
      omega (arith, resynced_bound d, filled s ne, length-append s (c ∷ t))
  resynced_bound (is_whole {s} {t} w d) = omega (arith, resynced_bound d, length-append s t)
  resynced_bound (is_unfinished ne o w) = omega arith

  -- A byte c that may begin a frame, though c c may not, many times in a row.
  module _ (c : ℕ) (o : F.Open (c ∷ [])) (w : ¬ F.Whole (c ∷ [])) (n : ¬ F.Open (c ∷ c ∷ [])) where
    abbrev again : ℕ → List Piece
    again zero = unfinished (c ∷ []) ∷ []
    again (suc m) = broken (c ∷ []) ∷ again m

    again_divides : (m : ℕ) → Divides F (replicate (suc m) c) (again m)
    again_divides zero = is_unfinished cons≢nil o w
    again_divides (suc m) = is_broken {s = c ∷ []} cons≢nil o w n (again_divides m)

    again_breaks : (m : ℕ) → sum resynced (again m) ≡ m
    again_breaks zero = refl
    again_breaks (suc m) = omega (arith, again_breaks m)

    -- m + 1 of them have m broken starts.
    pub resynced_reached : (m : ℕ) {ps : List Piece} → Divides F (replicate (suc m) c) ps → sum resynced ps ≡ m
    resynced_reached m d = ap (sum resynced) (division_unique F d (again_divides m)) ∙ again_breaks m
