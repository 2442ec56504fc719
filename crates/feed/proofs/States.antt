-- Where the tables lead from a matching state, on any byte, is where the step leads.
use mathlib.Core.Path.{◌≡◌, refl, ap, ◌∙◌}
use mathlib.Core.Bool.{Bool, true, false, cond}
use Prim.Native.Nat.{ℕ, zero, suc, ◌+◌, ◌≤◌, ◌<◌}
use native.Mathlib.Omega.{arith}
use lib.Dec.{eqb, lit<}
use lib.ListN.{get_or}
use borrow.Author.Tests.{eqb-true, ne_eqb}
use Rattle.wire.specs.declared.Kind.{Kind}
use Rattle.wire.specs.declared.Kind.TheVariants.{Report, Command}
use Rattle.scan.specs.Start.{abandoned, start_of}
use Rattle.scan.specs.declared.stats.Stats.{Stats}
use Rattle.step.specs.Step.{step_header, step_tail}
use Rattle.tables.specs.Table.{marks, class_of, header_state, tail_state, next_of, first_next}
use Rattle.feed.specs.States.{given_up, step_to}
use Rattle.tables.proofs.Due.{class_due}

-- A matching state is a row of the second table.
pub header_row : (k : Kind) (m : ℕ) → m ≤ 3 → header_state k m < 16
header_row Report m h = omega (arith, h)
header_row Command m h = omega (arith, h)

pub tail_row : (k : Kind) (m : ℕ) → m ≤ 3 → tail_state k m < 16
tail_row Report m h = omega (arith, h)
tail_row Command m h = omega (arith, h)

module _ (st : Stats) (b : ℕ) (low : b < 256) where
  -- A byte that is not due is tried as a new start, after t bytes of a frame with n data bytes.
  begins_as : (t n : ℕ) (y z : Bool) → eqb b 0xF4 ≡ y → eqb b 0xFD ≡ z
      → step_to t n st (cond y 1 (cond z 5 0)) ≡ start_of (given_up st t) b
  unfolding start_of
  begins_as t n true z e f = rw e
  begins_as t n false true e f = rw (e, f)
  begins_as t n false false e f = rw (e, f)

  begins : (t n : ℕ) → step_to t n st (first_next (class_of b)) ≡ start_of (given_up st t) b
  begins t n =
      rw (class_due b low 0 (lit< tt), class_due b low 4 (lit< tt))
      (begins_as t n (eqb b 0xF4) (eqb b 0xFD) refl refl)

  -- The byte that is due in the state s leads to `next`.
  leads_as : (t n next : ℕ) (x : Bool) → step_to t n st (cond x next (first_next (class_of b)))
      ≡ cond x (step_to t n st next) (start_of (given_up st t) b)
  leads_as t n next true = refl
  leads_as t n next false = begins t n

  leads : (t n next s : ℕ) → s < 16 → step_to t n st (cond (eqb (class_of b) s) next (first_next (class_of b)))
      ≡ cond (eqb b (get_or marks s 0)) (step_to t n st next) (start_of (given_up st t) b)
  leads t n next s row =
      ap (λ (x : Bool). step_to t n st (cond x next (first_next (class_of b)))) (class_due b low s row)
      ∙ leads_as t n next (eqb b (get_or marks s 0))

  -- Where nothing is matched yet, both headers are due.
  first_report : (x : Bool) → eqb b 0xF4 ≡ x → cond x (step_to 0 0 st 1) (start_of st b) ≡ start_of st b
  unfolding start_of
  first_report true e = rw e
  first_report false e = refl

  first_command : (x : Bool) → eqb b 0xFD ≡ x → cond x (step_to 0 0 st 5) (start_of st b) ≡ start_of st b
  unfolding start_of
  first_command true e =
      let is = eqb-true b 0xFD e in
      let other : eqb b 0xF4 ≡ false = ne_eqb b 0xF4 (λ q. omega (arith, is, q)) in
      rw (other, e)
  first_command false e = refl

  pub header_same : (k : Kind) (m : ℕ) → m ≤ 3
      → step_to m 0 st (next_of (header_state k m) (class_of b)) ≡ step_header k m st b
  header_same Report zero h = leads 0 0 1 0 (lit< tt) ∙ first_report (eqb b 0xF4) refl
  header_same Report (suc zero) h = leads 1 0 2 1 (lit< tt)
  header_same Report (suc (suc zero)) h = leads 2 0 3 2 (lit< tt)
  header_same Report (suc (suc (suc zero))) h = leads 3 0 16 3 (lit< tt)
  header_same Report (suc (suc (suc (suc m)))) h = absurd (omega (arith, h))
  header_same Command zero h = leads 0 0 5 4 (lit< tt) ∙ first_command (eqb b 0xFD) refl
  header_same Command (suc zero) h = leads 1 0 6 5 (lit< tt)
  header_same Command (suc (suc zero)) h = leads 2 0 7 6 (lit< tt)
  header_same Command (suc (suc (suc zero))) h = leads 3 0 20 7 (lit< tt)
  header_same Command (suc (suc (suc (suc m)))) h = absurd (omega (arith, h))

  -- A tail that breaks is never the first byte of a frame.
  some_given : (n m : ℕ) → given_up st (6 + n + m) ≡ abandoned st (6 + n + m)
  some_given n m = rw (ne_eqb (6 + n + m) 0 (λ q. omega (arith, q)))

  tail_leads : (n m next s : ℕ) → s < 16 → step_to (6 + n + m) n st (cond (eqb (class_of b) s) next (first_next (class_of b)))
      ≡ cond (eqb b (get_or marks s 0)) (step_to (6 + n + m) n st next) (start_of (abandoned st (6 + n + m)) b)
  tail_leads n m next s row = leads (6 + n + m) n next s row
      ∙ ap (λ (g : Stats). cond (eqb b (get_or marks s 0)) (step_to (6 + n + m) n st next) (start_of g b)) (some_given n m)

  pub tail_same : (k : Kind) (m n : ℕ) → m ≤ 3
      → step_to (6 + n + m) n st (next_of (tail_state k m) (class_of b)) ≡ step_tail k m n st b
  tail_same Report zero n h = tail_leads n 0 9 8 (lit< tt)
  tail_same Report (suc zero) n h = tail_leads n 1 10 9 (lit< tt)
  tail_same Report (suc (suc zero)) n h = tail_leads n 2 11 10 (lit< tt)
  tail_same Report (suc (suc (suc zero))) n h = tail_leads n 3 24 11 (lit< tt)
  tail_same Report (suc (suc (suc (suc m)))) n h = absurd (omega (arith, h))
  tail_same Command zero n h = tail_leads n 0 13 12 (lit< tt)
  tail_same Command (suc zero) n h = tail_leads n 1 14 13 (lit< tt)
  tail_same Command (suc (suc zero)) n h = tail_leads n 2 15 14 (lit< tt)
  tail_same Command (suc (suc (suc zero))) n h = tail_leads n 3 28 15 (lit< tt)
  tail_same Command (suc (suc (suc (suc m)))) n h = absurd (omega (arith, h))
