-- Copies of a byte string into another, by how much of it fits.
use mathlib.Core.Path.{◌≡◌, ◌∙◌}
use mathlib.Core.List.{List, [], ◌∷◌, ◌++◌, append-nil, append_assoc}
use Prim.Native.Nat.{ℕ, zero, suc, ◌+◌, ◌-◌, ◌≤◌, ◌<◌, min}
use native.Mathlib.Nat.{zero-add, sub-zero}
use native.Mathlib.Numerals.{add-one}
use native.Mathlib.Omega.{arith}
use lib.ListN.{length, take, drop, set, get_or, replicate, length-replicate, drop_of_length-le}
use lib.Seq.{take-nil, drop-nil, paste-zero, paste-suc}
use borrow.Rule.Slice.PartMut.{post_of, Post-is}
use Rattle.wire.specs.Prefix.{over, pasted, prefixed, padded}

min_suc : (m n : ℕ) → min (suc m) (suc n) ≡ suc (min m n)
min_suc m n = omega arith

-- No byte is copied.
pub over_nil : (d : List ℕ) (i : ℕ) (s : List ℕ) → d ≡ over d i s 0
unfolding over
over_nil d i s = paste-zero d i s

-- One more byte is copied, to the front.
pub over_more : (d : List ℕ) (i : ℕ) (s : List ℕ) (n : ℕ) → i + n < length d → n < length s
    → set (over d i s n) (i + n) (get_or s n 0) ≡ over d i s (n + 1)
unfolding over
over_more d i s n h k = rw (add-one n) (paste-suc d i s n 0 h k)

pub front_more : (d s : List ℕ) (n : ℕ) → n < length d → n < length s
    → set (over d 0 s n) n (get_or s n 0) ≡ over d 0 s (n + 1)
front_more d s n h k = simp zero-add at (over_more d 0 s n (omega arith) k)

-- As many as fit are copied; none if the place is past the end.
pub pasted_over : (d : List ℕ) (i : ℕ) (s : List ℕ) (n : ℕ) → n ≡ min (length d - i) (length s)
    → over d i s n ≡ pasted d i s
unfolding pasted
pasted_over d i s n e = rw e

pub pasted_nil : (d : List ℕ) (i : ℕ) (s : List ℕ) → length d ≤ i → d ≡ pasted d i s
pasted_nil d i s h = over_nil d i s ∙ pasted_over d i s 0 (omega arith)

-- `take` and `drop` stop at the end of the list.
pub take_min : (m : ℕ) (s : List ℕ) → take (min m (length s)) s ≡ take m s
take_min m [] = simp take-nil
take_min zero (b ∷ s) = let z : min 0 (suc (length s)) ≡ 0 = omega arith in rw z
take_min (suc m) (b ∷ s) = rw (min_suc m (length s), take_min m s)

drop_min : (d : List ℕ) (n : ℕ) → drop (min (length d) n) d ≡ drop n d
drop_min [] n = simp drop-nil
drop_min (b ∷ d) zero = let z : min (suc (length d)) 0 ≡ 0 = omega arith in rw z
drop_min (b ∷ d) (suc n) = rw (min_suc (length d) n, drop_min d n)

pub pasted_front : (d s : List ℕ) → pasted d 0 s ≡ prefixed d s
unfolding over pasted prefixed
pasted_front d s =
    rw (sub-zero, zero-add, take_min (length d) s, drop_min d (length s))

drop-replicate : (m n : ℕ) → drop m (replicate {A = ℕ} n 0) ≡ replicate (n - m) 0
drop-replicate zero n = rw sub-zero
drop-replicate (suc m) zero = let z : 0 - suc m ≡ 0 = omega arith in rw z
drop-replicate (suc m) (suc n) = let z : suc n - suc m ≡ n - m = omega arith in rw z (drop-replicate m n)

pub prefixed_zeros : (n : ℕ) (s : List ℕ) → prefixed (replicate n 0) s ≡ padded n s
unfolding prefixed padded
prefixed_zeros n s = rw (length-replicate {A = ℕ} n 0, drop-replicate (length s) n)

pasted_whole : (d : List ℕ) (i : ℕ) (s : List ℕ) (n : ℕ) → n ≡ min (length s) (length d - i)
    → (take i d ++ take n s) ++ drop (i + n) d ≡ pasted d i s
unfolding over
pasted_whole d i s n e = pasted_over d i s n (omega arith)

-- The front of a copy, and what is left of the string after it.
pub pasted_copied : (d : List ℕ) (i : ℕ) (s : List ℕ) (n : ℕ) → n ≡ min (length s) (length d - i)
    → take i d ++ (take n s ++ post_of i (i + n - i) d) ≡ pasted d i s
pasted_copied d i s n e =
    rw (Post-is i (i + n) d (omega arith), ← append_assoc (take i d) (take n s) (drop (i + n) d)) (pasted_whole d i s n e)

pub padded_copied : (n : ℕ) (s : List ℕ) (m : ℕ) → m ≡ min (length s) n
    → take m s ++ drop m (replicate n 0) ≡ padded n s
unfolding padded
padded_copied n s m e =
    let q : m ≡ min n (length s) = omega arith in
    let z : n - min n (length s) ≡ n - length s = omega arith in
    rw (q, take_min n s, drop-replicate (min n (length s)) n, z)

-- A copy that fills the whole string that it is made into.
pub prefixed_full : (d s : List ℕ) → length d ≤ length s → prefixed d s ≡ take (length d) s
unfolding prefixed
prefixed_full d s h = rw (drop_of_length-le d h, append-nil)
