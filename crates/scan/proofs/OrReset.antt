-- `well_formed` fails exactly if document 01 calls the scan out of range. Then it is reset, and otherwise it is kept.
use mathlib.Core.Path.{◌≡◌, refl, sym, ◌∙◌}
use mathlib.Core.Bool.{Bool, true, false, ◌||◌, true≢false, and-false}
use Prim.Native.Nat.{ℕ, ◌≤◌}
use native.Mathlib.Omega.{arith}
use lib.Dec.{leb, ltb, eqb}
use borrow.Author.Tests.{leb-true, leb-false, lt-leb, ltb-false, le-ltb, eqb-false, ne_eqb}
use Rattle.stream.specs.Length.{InRange, in_range}
use Rattle.std.proofs.lemmas.Bool.{false_from_ne_true, true_from_ne_false}
use Rattle.stream.proofs.Words.{range_true}
use Rattle.scan.specs.Scan.{well_formed_in, well_formed, or_reset}
use Rattle.scan.specs.Stands.{OutOfRange, header_matched, tail_matched, length_matched, length_above}
use Rattle.scan.specs.Stands.{length_early, data_length, tail_length, data_position, tail_position, OrReset}
use Rattle.scan.specs.declared.State.{State}
use Rattle.scan.specs.declared.State.TheVariants.{Header, Len, Data, Tail}
use Rattle.scan.specs.declared.Scan.{Scan}
use Rattle.scan.proofs.Orders.{or_reset_same, or_reset_out}

module _ (limit : ℕ) (c : Scan) where
  unfit : ¬ InRange limit c.len → in_range limit c.len ≡ false
  unfit h = false_from_ne_true _ (λ e. h ((range_true limit c.len).0 e))

  -- If a field is out of range, the test fails.
  out_fails : OutOfRange limit c → well_formed limit c ≡ false
  unfolding well_formed
  out_fails (header_matched s l) = rw (s, lt-leb c.matched 3 l)
  out_fails (tail_matched s l) = rw (s, lt-leb c.matched 3 l)
  out_fails (length_matched s l) = rw (s, lt-leb c.matched 1 l)
  out_fails (length_above s l) = rw (s, lt-leb c.len 255 l, and-false)
  out_fails (length_early s n z) = rw (s, z, ne_eqb c.len 0 n, and-false)
  out_fails (data_length s n) = rw (s, unfit n)
  out_fails (tail_length s n) = rw (s, unfit n, and-false)
  out_fails (data_position s n) = rw (s, le-ltb c.pos c.len (omega arith), and-false)
  out_fails (tail_position s n) = rw (s, ne_eqb c.pos c.len n, and-false, and-false)

  -- If none is, it holds.
  module _ (inside : ¬ OutOfRange limit c) where
    fit : (¬ InRange limit c.len → OutOfRange limit c) → in_range limit c.len ≡ true
    fit h = true_from_ne_false _ (λ e. inside (h (λ r. true≢false (sym ((range_true limit c.len).1 r) ∙ e))))

    started : c.state ≡ Len → eqb c.matched 1 ≡ false → c.matched ≤ 1 → eqb c.len 0 ≡ true
    started s e l = true_from_ne_false _ (λ z. inside
        (length_early s (eqb-false c.len 0 z) (omega (arith, eqb-false c.matched 1 e))))

    length_holds : c.state ≡ Len → c.matched ≤ 1 → (x : Bool) → eqb c.matched 1 ≡ x → x || eqb c.len 0 ≡ true
    length_holds s l true e = refl
    length_holds s l false e = started s e l

    inside_holds : (s : State) → c.state ≡ s → well_formed_in limit s c.matched c.len c.pos ≡ true
    inside_holds Header q = true_from_ne_false _ (λ e. inside (header_matched q (leb-false c.matched 3 e)))
    inside_holds Len q =
        let few = true_from_ne_false (leb c.matched 1) (λ e. inside (length_matched q (leb-false c.matched 1 e))) in
        let small = true_from_ne_false (leb c.len 255) (λ e. inside (length_above q (leb-false c.len 255 e))) in
        rw (few, small, length_holds q (leb-true c.matched 1 few) _ refl)
    inside_holds Data q =
        let within = true_from_ne_false (ltb c.pos c.len) (λ e. inside (data_position q
        (λ l. omega (arith, ltb-false c.pos c.len e)))) in
        rw (fit (data_length q), within)
    inside_holds Tail q =
        let few = true_from_ne_false (leb c.matched 3) (λ e. inside (tail_matched q (leb-false c.matched 3 e))) in
        let all = true_from_ne_false (eqb c.pos c.len) (λ e. inside (tail_position q (eqb-false c.pos c.len e))) in
        rw (few, fit (tail_length q), all)

  pub or_reset_right : OrReset limit c (or_reset limit c)
  unfolding well_formed
  or_reset_right = record {
    out = λ x. or_reset_out limit c (out_fails x);
    inside = λ n. or_reset_same limit c (inside_holds n c.state refl);
  }

  -- So is a scan equal to the definition's.
  pub reset_as : (r : Scan) → r ≡ or_reset limit c → OrReset limit c r
  reset_as r e = rw e or_reset_right
