-- A counted prefix padded with zeros: prefix and array come back from each other.
use mathlib.Core.Path.{◌≡◌, refl, sym}
use mathlib.Core.List.{List, [], ◌∷◌, ◌++◌}
use mathlib.Core.Bool.{true, and-eq-true_iff}
use Prim.Native.Nat.{ℕ, zero, suc, ◌-◌, ◌≤◌}
use native.Mathlib.Omega.{arith}
use lib.Dec.{eqb}
use lib.ListN.{length, take, drop, replicate, length-drop, take-append-drop}
use lib.Seq.{length-take-le, take_all, take_at, drop_at}
use borrow.Author.Tests.{eqb-true}
use Rattle.wire.specs.Prefix.{padded}
use Rattle.report_writer.specs.Writable.{all_zero}
use Rattle.report_writer.proofs.Counts.{Counted}
use Rattle.report_writer.proofs.Typed.{Held}

zeros_sound : (s : List ℕ) → all_zero s ≡ true → s ≡ replicate (length s) 0
zeros_sound [] e = refl
zeros_sound (b ∷ s) e =
    let h = (and-eq-true_iff (eqb b 0) (all_zero s)).0 e in
    let z = eqb-true b 0 h.0 in
    let t = zeros_sound s h.1 in
    cc

zeros_replicate : (n : ℕ) → all_zero (replicate n 0) ≡ true
zeros_replicate zero = refl
zeros_replicate (suc n) = zeros_replicate n

-- An array that is 0 after its count is its counted prefix, padded; one whose count must be 0 is all zeros.
module _ {a b k n : ℕ} {s : List ℕ} (h : Held k s) (c : Counted a b n s) where
  pub padded_back : b ≤ k → padded k (take n s) ≡ s
  unfolding padded
  padded_back l =
      let t = length-take-le n s (omega arith) in
      let short = take_all k (take n s) (omega arith) in
      let d : length (drop n s) ≡ k - n = omega (arith, length-drop n s) in
      let e = rw d at (zeros_sound (drop n s) c.after) in
      rw (short, t, ← e) (take-append-drop n s)

pub zeros_whole : {k n : ℕ} {s : List ℕ} → Held k s → Counted 0 0 n s → replicate k 0 ≡ s
zeros_whole {n} {s} h c =
    let e : n ≡ 0 = omega arith in
    rw (← h.size) (sym (zeros_sound s (rw e at c.after)))

-- A padded array begins with what was padded, and is 0 after it.
module _ (k n : ℕ) (s : List ℕ) (l : length s ≡ n) (h : n ≤ k) where
  padded_whole : padded k s ≡ s ++ replicate (k - length s) 0
  unfolding padded
  padded_whole = rw (take_all k s (omega arith))

  pub padded_front : take n (padded k s) ≡ s
  padded_front = rw padded_whole (take_at s (replicate (k - length s) 0) n l)

  pub padded_counted : (a b : ℕ) → a ≤ n → n ≤ b → Counted a b n (padded k s)
  padded_counted a b least most = record {
    least = least;
    most = most;
    after = rw (padded_whole, drop_at s (replicate (k - length s) 0) n l) (zeros_replicate (k - length s));
  }
