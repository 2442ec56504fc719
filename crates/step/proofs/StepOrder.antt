-- A step leaves a well-formed scan.
use mathlib.Core.Path.{◌≡◌, refl}
use mathlib.Core.Bool.{true, false}
use Prim.Native.Nat.{ℕ, ◌+◌, ◌*◌, ◌≤◌, ◌<◌}
use native.Mathlib.Omega.{arith}
use lib.Dec.{eqb}
use lib.ListN.{get_or}
use borrow.Author.Tests.{le-leb, lt-ltb, eq-eqb, eqb-false}
use Rattle.std.specs.Prelude.{Some, None}
use Rattle.std.specs.declared.option.Option.{Option}
use Rattle.wire.specs.Family.{header, tail, starting_with}
use Rattle.wire.specs.declared.Kind.{Kind}
use Rattle.stream.specs.Length.{in_range}
use Rattle.scan.specs.Scan.{well_formed}
use Rattle.scan.specs.Start.{abandoned, start_as, start_of}
use Rattle.step.specs.Step.{step_header, step_len, step_data, step_tail}
use Rattle.step.specs.Step.{step_in_state, step_of}
use Rattle.scan.specs.declared.State.{State}
use Rattle.scan.specs.declared.State.TheVariants.{Header, Len, Data, Tail}
use Rattle.scan.specs.declared.Scan.{Scan}
use Rattle.scan.specs.declared.stats.Stats.{Stats}
use Rattle.scan.specs.declared.stats.Stepped.{Stepped}
use Rattle.stream.proofs.Words.{range_true}
use Rattle.step.proofs.Turns.{data_step, either}
use Rattle.scan.proofs.Orders.{header_matched, tail_matched, tail_range, data_range, data_at_formed}

-- A number up to 3 that is not 3 is below 3.
ne_le : (m : ℕ) → eqb m 3 ≡ false → m ≤ 3 → m < 3
ne_le m e l = let ne : (m ≡ 3 → ⊥) = eqb-false m 3 e in omega arith

-- The step r leaves a well-formed scan.
abbrev Ordered : ℕ → Stepped → Type 0
Ordered limit r = well_formed limit r.scan ≡ true

module _ (limit b : ℕ) where
  start_as_order : (st : Stats) (o : Option Kind) → Ordered limit (start_as st o)
  unfolding well_formed
  start_as_order st (Some k) = refl
  start_as_order st None = refl

  start_order : (st : Stats) → Ordered limit (start_of st b)
  unfolding start_of
  start_order st = start_as_order st (starting_with b)

  module _ (st : Stats) (k : Kind) where
    header_order : (m : ℕ) → m ≤ 3 → Ordered limit (step_header k m st b)
    unfolding well_formed
    header_order m l = either (Ordered limit) (eqb m 0) _ _ (λ z. start_order st)
        (λ z. either (Ordered limit) (eqb b (get_or (header k) m 0)) _ _
        (λ e. either (Ordered limit) (eqb m 3) _ _ (λ t. refl) (λ t. le-leb (m + 1) 3 (omega (arith, ne_le m t l))))
        (λ e. start_order (abandoned st m)))

    length_order : (m n : ℕ) → b < 256 → Ordered limit (step_len limit k m n st b)
    unfolding well_formed
    length_order m n l = either (Ordered limit) (eqb m 0) _ _ (λ z. rw (le-leb b 255 (omega arith)))
        (λ z. either (Ordered limit) (in_range limit (n + 256 * b)) _ _
        (λ r. rw (r, lt-ltb 0 (n + 256 * b) (omega (arith, ((range_true limit (n + 256 * b)).0 r).0))))
        (λ r. start_order (abandoned st 5)))

    data_order : (n p : ℕ) → in_range limit n ≡ true → Ordered limit (step_data k n p st)
    data_order n p r = rw (data_step st k n p) (data_at_formed limit k n (p + 1) r)

    tail_order : (m n : ℕ) → m ≤ 3 → in_range limit n ≡ true → Ordered limit (step_tail k m n st b)
    unfolding well_formed
    tail_order m n l r = either (Ordered limit) (eqb b (get_or (tail k) m 0)) _ _
        (λ e. either (Ordered limit) (eqb m 3) _ _ (λ t. refl)
        (λ t. rw (le-leb (m + 1) 3 (omega (arith, ne_le m t l)), r, eq-eqb n n refl)))
        (λ e. start_order (abandoned st (6 + n + m)))

  pub step_order : (c : Scan) (st : Stats) → well_formed limit c ≡ true → b < 256
      → well_formed limit (step_of limit c st b).scan ≡ true
  unfolding step_of
  step_order c st o l = go c.state refl
    where
      go : (s : State) → c.state ≡ s
          → Ordered limit (step_in_state limit s c.kind c.matched c.len c.pos st b)
      go Header e = header_order st c.kind c.matched (header_matched limit c o e)
      go Len e = length_order st c.kind c.matched c.len l
      go Data e = data_order st c.kind c.len c.pos (data_range limit c o e)
      go Tail e = tail_order st c.kind c.matched c.len (tail_matched limit c o e) (tail_range limit c o e)
