-- Numbers put one after the other.
use mathlib.Core.Path.{◌≡◌, refl, ap}
use mathlib.Core.List.{List, [], ◌∷◌, ◌++◌, append_assoc, append-nil, map}
use Prim.Native.Nat.{ℕ, ◌+◌, ◌<◌, ◌≤◌}
use native.Mathlib.Numerals.{add-one}
use lib.ListN.{length, drop, get_or}
use lib.Seq.{drop-cons}
use Rattle.std.proofs.lemmas.List.{drop_all}
use Rattle.replay_io.specs.Line.{Gathered, put_byte, put_all, decimal_of, numbers_of}
use Rattle.replay_io.proofs.Puts.{put_append}

-- A space, and the digits of a number.
pub number_put : (g : Gathered) (v : ℕ) → put_all (put_byte g 32) (decimal_of v) ≡ put_all g (numbers_of (v ∷ []))
unfolding numbers_of put_all
number_put g v = rw append-nil refl

numbers_cons : (v : ℕ) (vs : List ℕ) → numbers_of (v ∷ []) ++ numbers_of vs ≡ numbers_of (v ∷ vs)
unfolding numbers_of
numbers_cons v vs = ap (λ (s : List ℕ). 32 ∷ s) (append_assoc (decimal_of v) [] (numbers_of vs))

-- A loop over values with numbers: one is put, then those after it.
module _ {X : Type 0} (f : X → ℕ) (g : Gathered) (s : List X) (i : ℕ) where
  pub number_next : (x : X) → x ≡ get_or s i x → i < length s
      → put_all (put_all g (numbers_of (f x ∷ []))) (numbers_of (map f (drop (i + 1) s)))
      ≡ put_all g (numbers_of (map f (drop i s)))
  number_next x e h = rw (put_append, numbers_cons, add-one, drop-cons s i x, ← e)

  pub numbers_done : length s ≤ i → put_all g (numbers_of (map f (drop i s))) ≡ g
  unfolding numbers_of put_all
  numbers_done h = rw (drop_all i s h)

pub ruleset each_number = (number_next, numbers_done)
