-- One draw more: the number after it, and the byte that it adds.
use mathlib.Core.Path.{◌≡◌, refl, ap}
use mathlib.Core.List.{List, [], ◌∷◌, ◌++◌}
use Prim.Native.Nat.{ℕ, zero, suc, ◌+◌, ◌%◌}
use native.Mathlib.Numerals.{add-one}
use Rattle.std.proofs.lemmas.Grind.{common_steps}
use Rattle.load_writer.specs.Draw.{draw_of}
use Rattle.load_writer.specs.Load.{after, drawn}

pub after_more : (k x : ℕ) → after (k + 1) x ≡ draw_of (after k x)
after_more zero x = refl
after_more (suc k) x = rw add-one (rw add-one at (after_more k (draw_of x)))

pub drawn_more : (k x : ℕ) → drawn (k + 1) x ≡ drawn k x ++ (draw_of (after k x) % 256 ∷ [])
drawn_more zero x = refl
drawn_more (suc k) x =
    rw add-one (ap (λ (l : List ℕ). draw_of x % 256 ∷ l) (rw add-one at (drawn_more k (draw_of x))))

-- What the loop over nine bytes goes by.
pub ruleset drawing = (after_more, drawn_more, common_steps)
