-- Where a load stops: after so many pieces, and nowhere else; and that a longer one goes on as a shorter one does.
use mathlib.Core.Path.{◌≡◌, sym, ap, ◌∙◌}
use mathlib.Core.List.{List, ◌++◌, append_assoc}
use Prim.Native.Nat.{ℕ, zero, suc, ◌+◌, ◌-◌, ◌≤◌, ◌<◌, min}
use native.Mathlib.Decide.{dec_le}
use native.Mathlib.Omega.{arith}
use lib.ListN.{length, length-append}
use Rattle.load_writer.specs.Load.{piece, first_pieces, laid_down}
use Rattle.load_writer.specs.Claims.{StopsOnce, Prefix}
use Rattle.load_writer.proofs.Fitting.{piece_not_empty, load_more, load_stops}

-- The load in n bytes is the first pieces: they are within, and with one more they are not.
record Stop (x n : ℕ) : Type 0 where
  pub pieces : ℕ
  pub are : laid_down x n ≡ first_pieces pieces x
  pub within : length (first_pieces pieces x) ≤ n
  pub passes : n < length (first_pieces (suc pieces) x)

stop : (k x n : ℕ) → n < k → Stop x n
stop zero x n h = absurd (omega arith)
stop (suc k) x n h =
    go (λ l. stop k (piece x).next (n - length (piece x).bytes) l) (dec_le (length (piece x).bytes) n)
  where
    go : (n - length (piece x).bytes < k → Stop (piece x).next (n - length (piece x).bytes))
        → Dec (length (piece x).bytes ≤ n) → Stop x n
    go more (yes l) =
        let b = (piece x).bytes in
        let m = more (omega (arith, piece_not_empty x)) in
        record {
          pieces = suc m.pieces;
          are = load_more x n l ∙ ap (λ (s : List ℕ). b ++ s) m.are;
          within = omega (arith, m.within, length-append b (first_pieces m.pieces (piece x).next));
          passes = omega (arith, m.passes, length-append b (first_pieces (suc m.pieces) (piece x).next));
        }
    go more (no l) = record {
      pieces = 0;
      are = load_stops x n (omega arith);
      within = omega arith;
      passes = omega (arith, length-append (piece x).bytes (first_pieces 0 (piece x).next));
    }

stopped : (x n : ℕ) → Stop x n
stopped x n = stop (suc n) x n (omega arith)

pub load_within : (x n : ℕ) → length (laid_down x n) ≤ n
load_within x n = let m = stopped x n in omega (arith, m.within, ap length m.are)

-- More pieces go on from fewer.
first_more : (i j x : ℕ) → (rest : List ℕ) × (first_pieces i x ++ rest ≡ first_pieces (i + j) x)
first_more zero j x = let z : 0 + j ≡ j = omega arith in (first_pieces j x, rw z)
first_more (suc i) j x =
    let z : suc i + j ≡ suc (i + j) = omega arith in
    let m = first_more i j (piece x).next in
    let b = (piece x).bytes in
    (m.0, rw z (append_assoc b (first_pieces i (piece x).next) m.0 ∙ ap (λ (s : List ℕ). b ++ s) m.1))

first_from : (i k x : ℕ) → i ≤ k → (rest : List ℕ) × (first_pieces i x ++ rest ≡ first_pieces k x)
first_from i k x h =
    let z : i + (k - i) ≡ k = omega arith in
    let m = first_more i (k - i) x in (m.0, m.1 ∙ ap (λ (j : ℕ). first_pieces j x) z)

first_grows : (i k x : ℕ) → i ≤ k → length (first_pieces i x) ≤ length (first_pieces k x)
first_grows i k x h =
    let m = first_from i k x h in omega (arith, ap length m.1, length-append (first_pieces i x) m.0)

-- Where more pieces are within, one more than fewer is.
before : (i k x : ℕ) {n m : ℕ} → n < length (first_pieces (suc i) x) → length (first_pieces k x) ≤ m → m ≤ n → k ≤ i
before i k x p w l = go (dec_le k i)
  where
    go : Dec (k ≤ i) → k ≤ i
    go (yes h) = h
    go (no h) = absurd (omega (arith, first_grows (suc i) k x (omega arith)))

pub load_stops_once : (x n : ℕ) → StopsOnce x n
load_stops_once x n =
    let m = stopped x (min n 65536) in
    record {
      pieces = m.pieces;
      stops = record { within = m.within; passes = m.passes };
      are = m.are;
      only = λ k s.
          let below : k ≤ m.pieces = before m.pieces k x m.passes s.within (omega arith) in
          let above : m.pieces ≤ k = before k m.pieces x s.passes m.within (omega arith) in omega arith;
    }

pub load_prefix : (x : ℕ) → Prefix x
load_prefix x n m h =
    let a = load_stops_once x n in
    let b = load_stops_once x m in
    let w : length (first_pieces a.pieces x) ≤ min m 65536 = omega (arith, a.stops.within) in
    let fewer = before b.pieces a.pieces x b.stops.passes w (omega arith) in
    let r = first_from a.pieces b.pieces x fewer in
    (r.0, ap (λ (s : List ℕ). s ++ r.0) a.are ∙ r.1 ∙ sym b.are)
