-- The pieces that are laid down in so many bytes: one by one, and up to the first that would pass.
use mathlib.Core.Path.{◌≡◌, refl, sym, ap, ◌∙◌}
use mathlib.Core.List.{List, [], ◌++◌}
use mathlib.Core.Bool.{Bool, true, false, cond}
use Prim.Native.Nat.{ℕ, zero, suc, ◌+◌, ◌-◌, ◌%◌, ◌≤◌, ◌<◌}
use native.Mathlib.Omega.{arith}
use lib.Dec.{leb}
use lib.ListN.{length}
use borrow.Author.Tests.{leb-true, le-leb, lt-leb}
use Rattle.wire.specs.Family.{framed}
use Rattle.load_writer.specs.Draw.{draw_of}
use Rattle.load_writer.specs.Load.{piece_by, piece, fitting, laid_down}

-- Every piece has a byte.
by_not_empty : (i x : ℕ) → 0 < length (piece_by i x).bytes
unfolding framed
by_not_empty zero x = omega arith
by_not_empty (suc zero) x = omega arith
by_not_empty (suc (suc zero)) x = omega arith
by_not_empty (suc (suc (suc i))) x = omega arith

pub piece_not_empty : (x : ℕ) → 0 < length (piece x).bytes
unfolding piece
piece_not_empty x = by_not_empty (draw_of x % 4) (draw_of x)

-- One piece more than there are bytes adds nothing.
spare : (k x n : ℕ) → n ≤ k → fitting (suc k) x n ≡ fitting k x n
spare zero x n h =
    let e : leb (length (piece x).bytes) n ≡ false = lt-leb _ n (omega (arith, piece_not_empty x)) in rw e
spare (suc k) x n h =
    go (λ l. spare k (piece x).next (n - length (piece x).bytes) l) (leb (length (piece x).bytes) n) refl
  where
    go : (n - length (piece x).bytes ≤ k
        → fitting (suc k) (piece x).next (n - length (piece x).bytes)
        ≡ fitting k (piece x).next (n - length (piece x).bytes))
        → (b : Bool) → leb (length (piece x).bytes) n ≡ b → fitting (suc (suc k)) x n ≡ fitting (suc k) x n
    go more true e =
        ap (λ (l : List ℕ). cond (leb (length (piece x).bytes) n) ((piece x).bytes ++ l) [])
        (more (omega (arith, piece_not_empty x, leb-true _ n e)))
    go more false e = rw e

-- Nor do any more.
enough : (j x n : ℕ) → fitting (n + j) x n ≡ laid_down x n
unfolding laid_down
enough zero x n = let z : n + 0 ≡ n = omega arith in rw z
enough (suc j) x n =
    let z : n + suc j ≡ suc (n + j) = omega arith in rw z (spare (n + j) x n (omega arith) ∙ enough j x n)

module _ (x n : ℕ) where
  one_more : laid_down x n ≡ fitting (suc n) x n
  unfolding laid_down
  one_more = sym (spare n x n (omega arith))

  -- The next piece is laid down, if it is within.
  pub load_more : length (piece x).bytes ≤ n
      → laid_down x n ≡ (piece x).bytes ++ laid_down (piece x).next (n - length (piece x).bytes)
  load_more h =
      let l = length (piece x).bytes in
      let z : n - l + l ≡ n = omega arith in
      let e = enough l (piece x).next (n - l) in
      one_more ∙ rw (le-leb l n h) (ap (λ (s : List ℕ). (piece x).bytes ++ s) (rw z at e))

  -- And where it would pass, nothing more is.
  pub load_stops : n < length (piece x).bytes → laid_down x n ≡ []
  load_stops h = one_more ∙ rw (lt-leb (length (piece x).bytes) n h)
