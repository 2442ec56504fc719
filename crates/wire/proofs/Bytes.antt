-- Strings of bytes: their parts, strings joined, the bytes of a number. Bytes of any width come back from the number
-- that they make.
use mathlib.Core.Path.{◌≡◌, refl}
use mathlib.Core.List.{List, [], ◌∷◌, ◌++◌}
use Prim.Native.Nat.{ℕ, zero, suc, ◌+◌, ◌*◌, ◌/◌, ◌%◌, ◌≤◌, ◌<◌}
use native.Mathlib.Omega.{arith}
use lib.ListN.{length, get_or, take, drop, length-take, length-drop, take-append-drop}
use lib.Seq.{drop-drop}
use Rattle.wire.specs.Bytes.{Every, Byte, Bytes}
use Rattle.wire.specs.Number.{little, le_bytes}

pub every_append : {A : Type 0} (P : A → Type 0) (l m : List A) → Every P l → Every P m → Every P (l ++ m)
every_append P [] m h k = k
every_append P (a ∷ l) m h k = (h.0, every_append P l m h.1 k)

pub every_split : {A : Type 0} (P : A → Type 0) (l m : List A) → Every P (l ++ m) → Every P l × Every P m
every_split P [] m h = (tt, h)
every_split P (a ∷ l) m h = let r = every_split P l m h.1 in ((h.0, r.0), r.1)

-- A list with a byte at each place is a string of bytes.
pub bytes_at : (s : List ℕ) → ((i : ℕ) → i < length s → get_or s i 0 < 256) → Bytes s
bytes_at [] h = tt
bytes_at (b ∷ s) h = (h 0 (omega arith), bytes_at s (λ i l. h (suc i) (omega arith)))

pub bytes_take : (n : ℕ) (s : List ℕ) → Bytes s → Bytes (take n s)
bytes_take zero s h = tt
bytes_take (suc n) [] h = tt
bytes_take (suc n) (b ∷ s) h = (h.0, bytes_take n s h.1)

pub bytes_drop : (n : ℕ) (s : List ℕ) → Bytes s → Bytes (drop n s)
bytes_drop zero s h = h
bytes_drop (suc n) [] h = tt
bytes_drop (suc n) (b ∷ s) h = bytes_drop n s h.1

pub bytes_append : (s t : List ℕ) → Bytes s → Bytes t → Bytes (s ++ t)
bytes_append = every_append Byte

pub bytes_le_bytes : (n x : ℕ) → Bytes (le_bytes n x)
bytes_le_bytes zero x = tt
bytes_le_bytes (suc n) x = (omega arith, bytes_le_bytes n (x / 256))

-- Bytes come back from the number that they make.
pub le_bytes_little : (s : List ℕ) → Bytes s → le_bytes (length s) (little s) ≡ s
le_bytes_little [] h = refl
le_bytes_little (b ∷ s) h =
    let low : (b + 256 * little s) % 256 ≡ b = omega arith in
    let high : (b + 256 * little s) / 256 ≡ little s = omega arith in
    rw (low, high, le_bytes_little s h.1)

-- So a number read at place i is written there again, before the bytes that followed it.
pub le_bytes_again : (n : ℕ) (s : List ℕ) (i : ℕ) (r : List ℕ) → Bytes s → i + n ≤ length s → r ≡ drop (i + n) s
    → le_bytes n (little (take n (drop i s))) ++ r ≡ drop i s
le_bytes_again n s i r b h e =
    let l : length (take n (drop i s)) ≡ n = simp (length-take, length-drop) (omega arith) in
    let x = le_bytes_little (take n (drop i s)) (bytes_take n (drop i s) (bytes_drop i s b)) in
    rw (rw l at x, e, ← drop-drop n i s) (take-append-drop n (drop i s))

-- A number that fits two bytes comes back from them.
pub little_two : (x : ℕ) → x < 65536 → little (le_bytes 2 x) ≡ x
little_two x h = omega arith
