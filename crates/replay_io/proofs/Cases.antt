-- Cases in a buffer: what is found at the front of the unused bytes, and that none of these is lost.
use mathlib.Core.Path.{◌≡◌, refl, sym, ap, ◌∙◌}
use mathlib.Core.List.{List, [], ◌++◌, append-nil}
use mathlib.Core.Bool.{Bool, true, false, cond}
use Prim.Native.Nat.{ℕ, ◌+◌, ◌-◌, ◌≤◌, min}
use native.Mathlib.Omega.{arith}
use lib.Dec.{eqb, leb, ltb}
use lib.ListN.{length, take, drop, length-take, length-drop}
use lib.Seq.{take-take, take-add}
use borrow.Author.Tests.{ltb-false, leb-true}
use Rattle.replay_io.specs.Argument.{field_at}
use Rattle.replay_io.specs.Case.{case_size, found_in, decided, sized, unread, next_at, read_of, used_of, unused}
use Rattle.replay_io.specs.Case.{NextCase, Grown}
use Rattle.replay_io.specs.declared.input.Found.TheVariants.{Case, Long, Short, End}
use Rattle.replay_io.specs.declared.input.Next.{Next}

-- A case that is found is no longer than the bytes, nor than the longest case.
module _ (s : List ℕ) where
  sized_by : (a b c : Bool) → ltb 70000 (field_at 4 s 1) ≡ a → leb (case_size s) (length s) ≡ b
      → let n = sized (cond a Long (cond b Case (cond c End Short))) s in (n ≤ length s) × (n ≤ 70005)
  unfolding sized
  sized_by true b c h k = (omega arith, omega arith)
  sized_by false true c h k =
      let l = ltb-false 70000 (field_at 4 s 1) h in
      (leb-true (case_size s) (length s) k, omega arith)
  sized_by false false true h k = (omega arith, omega arith)
  sized_by false false false h k = (omega arith, omega arith)

  sized_within : (sized (found_in s) s ≤ length s) × (sized (found_in s) s ≤ 70005)
  unfolding found_in
  sized_within = sized_by (ltb 70000 (field_at 4 s 1)) (leb (case_size s) (length s)) (eqb (length s) 0) refl refl

module _ (b : List ℕ) (i n : ℕ) (ordered : i ≤ n) (inside : n ≤ length b) where
  unread_length : length (unread b i n) ≡ n - i
  unread_length = simp (length-take, length-drop) (omega arith)

  pub next_end : i + sized (found_in (unread b i n)) (unread b i n) ≤ n
  next_end = let l = unread_length in let h = (sized_within (unread b i n)).0 in omega arith

  next_small : i + sized (found_in (unread b i n)) (unread b i n) ≤ i + 70005
  next_small = let h = (sized_within (unread b i n)).1 in omega arith

-- The unused bytes and the next case, from the code's places i and n.
module _ (b : List ℕ) (x : Next) (i n : ℕ) (read : n ≡ read_of b x) (used : i ≡ min x.end n) where
  pub unused_here : unread b i n ≡ unused b x
  unused_here = rw (← read, ← used)

  pub next_here : (r : Next) → r ≡ next_at b i n → r ≡ next_at b (used_of b x) (read_of b x)
  next_here r e = rw (← read, ← used) e

-- The code's test whether what is found is decided.
module _ (b : List ℕ) (x r : Next) where
  pub next_tested : (t : Bool) → t ≡ decided r.found → r ≡ next_at b (used_of b x) (read_of b x)
      → t ≡ decided (found_in (unused b x))
  unfolding next_at
  next_tested t q e = q ∙ ap (λ (y : Next). decided y.found) e

-- The next case, if the unused bytes decide it: nothing is moved or read.
pub next_still : (b : List ℕ) (x r : Next) → decided (found_in (unused b x)) ≡ true
    → r ≡ next_at b (used_of b x) (read_of b x) → NextCase b x b r
unfolding next_at
next_still b x r d e =
    let o : used_of b x ≤ read_of b x = omega arith in
    let w : read_of b x ≤ length b = omega arith in
    rw e (record {
      ordered = omega arith;
      inside = next_end b (used_of b x) (read_of b x) o w;
      within = w;
      small = next_small b (used_of b x) (read_of b x) o w;
      told = refl;
      more = [];
      kept = rw append-nil;
      still = λ q. (refl, refl);
      front = λ q. let z : ◌≡◌ {A = ℕ} 0 1 = cc in absurd (omega arith);
    })

-- The next case, if they do not: they are moved to the front, and more are read.
pub next-front : (b : List ℕ) (x : Next) (b' : List ℕ) (r : Next) (n : ℕ) (more : List ℕ)
    → decided (found_in (unused b x)) ≡ false → n ≤ length b' → r ≡ next_at b' 0 n → unread b' 0 n ≡ unused b x ++ more
    → NextCase b x b' r
unfolding next_at
next-front b x b' r n more d w e k =
    let o : 0 ≤ n = omega arith in
    rw e (record {
      ordered = omega arith;
      inside = next_end b' 0 n o w;
      within = w;
      small = next_small b' 0 n o w;
      told = refl;
      more = more;
      kept = k;
      still = λ q. let z : ◌≡◌ {A = ℕ} 0 1 = cc in absurd (omega arith);
      front = λ q. refl;
    })

-- Reading after the first k bytes: nothing is read; two readings are one.
pub grown_none : (b : List ℕ) (k : ℕ) → k ≤ length b → Grown b k b k
grown_none b k h = record { ordered = omega arith; within = h; kept = refl }

pub grown_more : {b b' b'' : List ℕ} {k n m : ℕ} → Grown b k b' n → Grown b' n b'' m → Grown b k b'' m
grown_more {b} {b'} {b''} {k} {n} {m} g h = record {
  ordered = omega arith;
  within = h.within;
  kept = sym (take-take k n b'' g.ordered) ∙ ap (take k) h.kept ∙ take-take k n b' g.ordered ∙ g.kept;
}

-- The bytes in the buffer then: those that were kept, and more.
pub grown_unread : {b b' : List ℕ} {k n : ℕ} → Grown b k b' n
    → unread b' 0 n ≡ take k b ++ take (n - k) (drop k b')
grown_unread {b} {b'} {k} {n} g =
    let e : n - 0 ≡ k + (n - k) = omega arith in
    ap (λ (m : ℕ). take m b') e ∙ take-add k (n - k) b' ∙ ap (λ (s : List ℕ). s ++ take (n - k) (drop k b')) g.kept
