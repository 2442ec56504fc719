-- Tables that hold the classes and the next states match the headers and the tails, by families and bytes.
use mathlib.Core.Path.{◌≡◌, refl, sym, ap, subst, ◌∙◌}
use mathlib.Core.List.{List}
use mathlib.Core.Bool.{Bool, true, false, cond}
use Prim.Native.Nat.{ℕ, suc, ◌-◌, ◌<◌}
use native.Mathlib.Omega.{arith}
use lib.Dec.{eqb, ltb, lit<}
use lib.ListN.{get_or}
use borrow.Author.Tests.{eqb-true, ltb-true, ltb-false, eq-eqb, ne_eqb}
use Rattle.std.specs.Prelude.{Some, None}
use Rattle.wire.specs.Family.{header, tail}
use Rattle.wire.specs.declared.Kind.{Kind}
use Rattle.wire.specs.declared.Kind.TheVariants.{Report, Command}
use Rattle.tables.specs.Table.{marks, class_of, header_state, tail_state, first_next, next_of, Classes, Nexts}
use Rattle.tables.specs.Matching.{Unmarked, OneEach, header_whole, tail_whole, first_as, first_state}
use Rattle.tables.specs.Matching.{Matching, on_byte}
use Rattle.tables.proofs.Below.{below, below_each}
use Rattle.tables.proofs.Due.{class_most, class_due}

-- What holds of the four bytes of a header or tail and of its matching states: tested at each place, and computed.
record Places (state : ℕ → ℕ) (part : List ℕ) : Type 0 where
  pub row : (m : ℕ) → m < 4 → state m < 16
  pub byte : (m : ℕ) → m < 4 → get_or part m 0 < 256
  pub due : (m : ℕ) → m < 4 → get_or marks (state m) 0 ≡ get_or part m 0
  pub class : (m : ℕ) → m < 4 → class_of (get_or part m 0) ≡ state m
  pub on : (m : ℕ) → m < 3 → next_of (state m) (class_of (get_or part m 0)) ≡ state (suc m)

module _ (state : ℕ → ℕ) (part : List ℕ) where
  abbrev row_test : ℕ → Bool
  row_test m = ltb (state m) 16

  abbrev byte_test : ℕ → Bool
  byte_test m = ltb (get_or part m 0) 256

  abbrev due_test : ℕ → Bool
  due_test m = eqb (get_or marks (state m) 0) (get_or part m 0)

  abbrev class_test : ℕ → Bool
  class_test m = eqb (class_of (get_or part m 0)) (state m)

  abbrev on_test : ℕ → Bool
  on_test m = eqb (next_of (state m) (class_of (get_or part m 0))) (state (suc m))

  places_tested : below row_test 4 ≡ true → below byte_test 4 ≡ true → below due_test 4 ≡ true → below class_test 4 ≡ true
      → below on_test 3 ≡ true → Places state part
  places_tested rows bytes dues classes ons = record {
    row = λ m h. ltb-true _ _ (below_each row_test 4 rows m h);
    byte = λ m h. ltb-true _ _ (below_each byte_test 4 bytes m h);
    due = λ m h. eqb-true _ _ (below_each due_test 4 dues m h);
    class = λ m h. eqb-true _ _ (below_each class_test 4 classes m h);
    on = λ m h. eqb-true _ _ (below_each on_test 3 ons m h);
  }

header_places : (k : Kind) → Places (header_state k) (header k)
unfolding class_of
header_places Report = places_tested (header_state Report) (header Report) refl refl refl refl refl
header_places Command = places_tested (header_state Command) (header Command) refl refl refl refl refl

tail_places : (k : Kind) → Places (tail_state k) (tail k)
unfolding class_of
tail_places Report = places_tested (tail_state Report) (tail Report) refl refl refl refl refl
tail_places Command = places_tested (tail_state Command) (tail Command) refl refl refl refl refl

-- A byte of a class below 16 is the mark in that place.
mark_of : (b : ℕ) → b < 256 → class_of b < 16 → b ≡ get_or marks (class_of b) 0
mark_of b low few = eqb-true _ _ (sym (class_due b low (class_of b) few) ∙ eq-eqb (class_of b) (class_of b) refl)

-- The marks are the bytes of the headers and the tails.
module _ (b : ℕ) where
  not_in : {state : ℕ → ℕ} {part : List ℕ} → Places state part → ((m : ℕ) → m < 4 → ¬ (b ≡ get_or part m 0))
      → (s m : ℕ) → m < 4 → s ≡ state m → ¬ (b ≡ get_or marks s 0)
  not_in p other s m h there is = other m h (is ∙ ap (λ (i : ℕ). get_or marks i 0) there ∙ p.due m h)

module _ (b : ℕ) (u : Unmarked b) where
  unmarked : (s : ℕ) → s < 16 → (x y z : Bool) → ltb s 4 ≡ x → ltb s 8 ≡ y → ltb s 12 ≡ z → ¬ (b ≡ get_or marks s 0)
  unmarked s low true y z e f g = not_in b (header_places Report) (u.header_other Report) s s (ltb-true s 4 e) refl
  unmarked s low false true z e f g =
      let from = ltb-false s 4 e in
      not_in b (header_places Command) (u.header_other Command) s (s - 4)
      (omega (arith, from, ltb-true s 8 f)) (omega (arith, from))
  unmarked s low false false true e f g =
      let from = ltb-false s 8 f in
      not_in b (tail_places Report) (u.tail_other Report) s (s - 8)
      (omega (arith, from, ltb-true s 12 g)) (omega (arith, from))
  unmarked s low false false false e f g =
      let from = ltb-false s 12 g in
      not_in b (tail_places Command) (u.tail_other Command) s (s - 12)
      (omega (arith, low, from)) (omega (arith, from))

  other_class : b < 256 → (x : Bool) → ltb (class_of b) 16 ≡ x → class_of b ≡ 16
  other_class low true e =
      let few = ltb-true (class_of b) 16 e in
      absurd (unmarked (class_of b) few _ _ _ refl refl refl (mark_of b low few))
  other_class low false e = omega (arith, ltb-false (class_of b) 16 e, class_most b)

-- A byte whose class is not below 16 is in no header and in no tail.
no_part : {state : ℕ → ℕ} {part : List ℕ} → Places state part → (b : ℕ) → ¬ (class_of b < 16)
    → (m : ℕ) → m < 4 → ¬ (b ≡ get_or part m 0)
no_part p b none m h is = none (subst (λ (n : ℕ). n < 16) (sym (ap class_of is ∙ p.class m h)) (p.row m h))

marked_class : (b : ℕ) → ¬ Unmarked b → (x : Bool) → ltb (class_of b) 16 ≡ x → class_of b < 16
marked_class b marked true e = ltb-true (class_of b) 16 e
marked_class b marked false e =
    let none : ¬ (class_of b < 16) = λ few. omega (arith, few, ltb-false (class_of b) 16 e) in
    absurd (marked (record {
      header_other = λ k. no_part (header_places k) b none;
      tail_other = λ k. no_part (tail_places k) b none;
    }))

-- The table of the classes has one for each byte of a header or tail.
module _ (t : List ℕ) (c : Classes t) where
  one_alone : (a b : ℕ) → a < 256 → b < 256 → ¬ Unmarked a → get_or t a 0 ≡ get_or t b 0 → a ≡ b
  one_alone a b low under marked same =
      let equal : class_of a ≡ class_of b = sym (c.class a low) ∙ same ∙ c.class b under in
      let few-a = marked_class a marked _ refl in
      let few_b : class_of b < 16 = omega (arith, few-a, equal) in
      mark_of a low few-a ∙ ap (λ (i : ℕ). get_or marks i 0) equal ∙ sym (mark_of b under few_b)

  pub one_each : OneEach t
  one_each = record {
    alone = one_alone;
    others = λ a b low under u v. c.class a low ∙ other_class a u low _ refl ∙ sym (c.class b under ∙ other_class b v under _ refl);
  }

-- A byte that is not due is tried as the first of a header.
first_as_lem : (y z : Bool) → cond y 1 (cond z 5 0) ≡ first_as (cond y (Some Report) (cond z (Some Command) None))
first_as_lem true z = refl
first_as_lem false true = refl
first_as_lem false false = refl

pub first-is : (b : ℕ) → b < 256 → first_next (class_of b) ≡ first_state b
first-is b low = rw (class_due b low 0 (lit< tt), class_due b low 4 (lit< tt)) (first_as_lem (eqb b 0xF4) (eqb b 0xFD))

-- The second table matches the headers and the tails.
module _ (u : List (List ℕ)) (n : Nexts u) where
  on_next : (s b : ℕ) → s < 16 → on_byte u s b ≡ next_of s (class_of b)
  on_next s b row = n.next s (class_of b) row (omega (arith, class_most b))

  module _ {state : ℕ → ℕ} {part : List ℕ} (p : Places state part) where
    part_on : (m : ℕ) → m < 3 → on_byte u (state m) (get_or part m 0) ≡ state (suc m)
    part_on m h = on_next (state m) (get_or part m 0) (p.row m (omega (arith, h))) ∙ p.on m h

    part_end : on_byte u (state 3) (get_or part 3 0) ≡ next_of (state 3) (class_of (get_or part 3 0))
    part_end = on_next (state 3) (get_or part 3 0) (p.row 3 (lit< tt))

    part_broken : (m b : ℕ) → m < 4 → b < 256 → ¬ (b ≡ get_or part m 0) → on_byte u (state m) b ≡ first_state b
    part_broken m b h low other =
        let row = p.row m h in
        let due : eqb (class_of b) (state m) ≡ false =
        class_due b low (state m) row ∙ ne_eqb _ _ (λ is. other (is ∙ p.due m h)) in
        on_next (state m) b row ∙ rw due (first-is b low)

  header_end : (k : Kind) → on_byte u (header_state k 3) (get_or (header k) 3 0) ≡ header_whole k
  unfolding class_of
  header_end Report = part_end (header_places Report)
  header_end Command = part_end (header_places Command)

  tail_end : (k : Kind) → on_byte u (tail_state k 3) (get_or (tail k) 3 0) ≡ tail_whole k
  unfolding class_of
  tail_end Report = part_end (tail_places Report)
  tail_end Command = part_end (tail_places Command)

  pub matching : Matching (on_byte u)
  matching = record {
    header_on = λ k. part_on (header_places k);
    tail_on = λ k. part_on (tail_places k);
    header_end = header_end;
    tail_end = tail_end;
    header_broken = λ k. part_broken (header_places k);
    tail_broken = λ k. part_broken (tail_places k);
  }
