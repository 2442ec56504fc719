-- Bytes put one after the other.
use mathlib.Core.Path.{◌≡◌, refl}
use mathlib.Core.List.{List, [], ◌∷◌, ◌++◌}
use Prim.Native.Nat.{ℕ, ◌+◌, ◌≤◌, ◌<◌}
use native.Mathlib.Numerals.{add-one}
use lib.ListN.{length, drop, get_or, set}
use lib.Seq.{drop-cons}
use borrow.Author.Tests.{lt-ltb, le-ltb}
use Rattle.replay_io.specs.Line.{Gathered, gathered, place, put_byte, put_all}

-- A byte is put in front once a full buffer is written, and else after the bytes that are taken.
module _ (s : List ℕ) (n b : ℕ) where
  pub put_full : 65536 ≤ n → gathered (set s 0 b) 1 ≡ put_byte (gathered s n) b
  unfolding put_byte place
  put_full h = rw (le-ltb n 65536 h)

  pub put_room : n < 65536 → gathered (set s n b) (n + 1) ≡ put_byte (gathered s n) b
  unfolding put_byte place
  put_room h = rw (lt-ltb n 65536 h)

pub put_append : (g : Gathered) (s t : List ℕ) → put_all (put_all g s) t ≡ put_all g (s ++ t)
unfolding put_all
put_append g [] t = refl
put_append g (b ∷ s) t = put_append (put_byte g b) s t

pub put_nil : (g : Gathered) → g ≡ put_all g []
unfolding put_all
put_nil g = refl

pub put_one : (g : Gathered) (b : ℕ) → put_byte g b ≡ put_all g (b ∷ [])
unfolding put_all
put_one g b = refl

-- A loop over bytes: one is put, then those after it.
pub put_next : (g : Gathered) (s : List ℕ) (i : ℕ) → i < length s
    → put_all (put_byte g (get_or s i 0)) (drop (i + 1) s) ≡ put_all g (drop i s)
unfolding put_all
put_next g s i h = rw (add-one, drop-cons s i 0)
