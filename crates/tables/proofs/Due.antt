-- A class is at most 16, and the byte that is due has the class of its matching state: one test over all bytes and
-- states, which is computed.
use mathlib.Core.Path.{◌≡◌, refl}
use mathlib.Core.List.{List, [], ◌∷◌}
use mathlib.Core.Bool.{Bool, true, false, cond, true≢false}
use Prim.Native.Nat.{ℕ, suc, ◌≤◌, ◌<◌}
use native.Mathlib.Omega.{arith}
use lib.Dec.{eqb}
use lib.ListN.{length, get_or}
use Rattle.tables.specs.Table.{marks, place_in, class_of}
use Rattle.tables.proofs.Below.{below, below_each}

place_next : (t : Bool) (n m : ℕ) → n ≤ m → cond t 0 (suc n) ≤ suc m
place_next true n m h = omega arith
place_next false n m h = omega (arith, h)

place_most : (xs : List ℕ) (x : ℕ) → place_in xs x ≤ length xs
place_most [] x = omega arith
place_most (y ∷ ys) x = place_next (eqb y x) (place_in ys x) (length ys) (place_most ys x)

pub class_most : (b : ℕ) → class_of b ≤ 16
unfolding class_of
class_most b = place_most marks b

-- two truth values are the same
abbrev same : Bool → Bool → Bool
same true y = y
same false y = cond y false true

same_sound : (x y : Bool) → same x y ≡ true → x ≡ y
same_sound true true e = refl
same_sound true false e = absurd (true≢false (rw e refl))
same_sound false true e = absurd (true≢false (rw e refl))
same_sound false false e = refl

-- the byte b is the one that is due in the state s exactly if its class is s; and so in every state
due_in : ℕ → ℕ → Bool
due_in b s = same (eqb (class_of b) s) (eqb b (get_or marks s 0))

due_any : ℕ → Bool
due_any b = below (due_in b) 16

all_due : below due_any 256 ≡ true
unfolding class_of due_in due_any
all_due = refl

pub class_due : (b : ℕ) → b < 256 → (s : ℕ) → s < 16 → eqb (class_of b) s ≡ eqb b (get_or marks s 0)
unfolding due_in due_any
class_due b low s row = same_sound (eqb (class_of b) s) (eqb b (get_or marks s 0))
    (below_each (due_in b) 16 (below_each due_any 256 all_due b low) s row)
