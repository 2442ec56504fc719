-- Steps that store nothing: which of them end no frame, and which lead to a tail.
use mathlib.Core.Path.{◌≡◌, refl, sym, ap, ◌∙◌}
use mathlib.Core.Bool.{Bool, true, false, true≢false}
use Prim.Native.Nat.{ℕ, ◌+◌, ◌*◌}
use lib.Dec.{eqb}
use lib.ListN.{get_or}
use Rattle.std.specs.Prelude.{Some, None}
use Rattle.std.specs.declared.option.Option.{Option}
use Rattle.wire.specs.Family.{header, tail, starting_with}
use Rattle.wire.specs.declared.Kind.{Kind}
use Rattle.stream.specs.Length.{in_range}
use Rattle.scan.specs.Start.{abandoned, start_as, start_of}
use Rattle.step.specs.Step.{step_header, step_len, step_tail, step_in_state}
use Rattle.scan.specs.declared.State.{State}
use Rattle.scan.specs.declared.State.TheVariants.{Header, Len, Data, Tail}
use Rattle.scan.specs.declared.stats.Stats.{Stats}
use Rattle.scan.specs.declared.stats.Stepped.{Stepped}
use Rattle.step.proofs.Turns.{either}

abbrev is_in_tail : State → Bool
is_in_tail Header = false
is_in_tail Len = false
is_in_tail Data = false
is_in_tail Tail = true

-- The step r ended no frame, and leads to no tail.
record Early (r : Stepped) : Type 0 where
  pub quiet : r.ended ≡ None
  pub early : is_in_tail r.scan.state ≡ false

-- The step r from the state s: if it stays in s, it ends no frame; if it leads to a tail, s is the tail.
pub record Leads (s : State) (r : Stepped) : Type 0 where
  pub quiet : r.scan.state ≡ s → r.ended ≡ None
  pub tail : r.scan.state ≡ Tail → s ≡ Tail

early_leads : (s : State) (r : Stepped) → Early r → Leads s r
early_leads s r h = record {
  quiet = λ e. h.quiet;
  tail = λ e. absurd (true≢false (ap is_in_tail (sym e) ∙ h.early));
}

start_as_lem : (st : Stats) (o : Option Kind) → Early (start_as st o)
start_as_lem st (Some k) = record { quiet = refl; early = refl }
start_as_lem st None = record { quiet = refl; early = refl }

started : (st : Stats) (b : ℕ) → Early (start_of st b)
unfolding start_of
started st b = start_as_lem st (starting_with b)

module _ (k : Kind) (m : ℕ) (st : Stats) (b : ℕ) where
  header_early : Early (step_header k m st b)
  header_early = either Early (eqb m 0) _ _ (λ z. started st b)
      (λ z. either Early (eqb b (get_or (header k) m 0)) _ _
      (λ e. either Early (eqb m 3) _ _ (λ t. record { quiet = refl; early = refl })
      (λ t. record { quiet = refl; early = refl }))
      (λ e. started (abandoned st m) b))

  length_early : (limit n : ℕ) → Early (step_len limit k m n st b)
  length_early limit n = either Early (eqb m 0) _ _ (λ z. record { quiet = refl; early = refl })
      (λ z. either Early (in_range limit (n + 256 * b)) _ _ (λ e. record { quiet = refl; early = refl })
      (λ e. started (abandoned st 5) b))

  -- A step that ends a frame leaves the tail.
  tail_leads : (n : ℕ) → Leads Tail (step_tail k m n st b)
  tail_leads n = either (Leads Tail) (eqb b (get_or (tail k) m 0)) _ _
      (λ e. either (Leads Tail) (eqb m 3) _ _
      (λ t. record { quiet = λ h. absurd (true≢false (ap is_in_tail (sym h))); tail = λ h. refl })
      (λ t. record { quiet = λ h. refl; tail = λ h. refl }))
      (λ e. early_leads Tail _ (started (abandoned st (6 + n + m)) b))

  pub part_leads : (limit : ℕ) (s : State) (n p : ℕ) → (s ≡ Data → ⊥) → Leads s (step_in_state limit s k m n p st b)
  part_leads limit Header n p o = early_leads Header _ header_early
  part_leads limit Len n p o = early_leads Len _ (length_early limit n)
  part_leads limit Data n p o = absurd (o refl)
  part_leads limit Tail n p o = tail_leads n
