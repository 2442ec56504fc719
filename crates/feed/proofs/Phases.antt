-- The parts in which nothing is stored: header, length and tail, byte by byte.
--   Within   a loop over the bytes, which began at byte i, is at byte j, still in the state in which it began
--   Turn     the loop's turn there: r is the step of byte j, which stores nothing
use mathlib.Core.Path.{◌≡◌, refl, sym, ◌∙◌}
use mathlib.Core.List.{List}
use mathlib.Core.Logic.{◌⊎◌, inl, inr}
use Prim.Native.Nat.{ℕ, ◌+◌, ◌≤◌, ◌<◌}
use native.Mathlib.Omega.{arith}
use lib.ListN.{length, get_or}
use Rattle.step.specs.Step.{step_in_state, step_of, stored}
use Rattle.step.specs.Phase.{run_from, AtState, PartialRun}
use Rattle.scan.specs.Start.{taking_of}
use Rattle.scan.specs.declared.State.{State}
use Rattle.scan.specs.declared.State.TheVariants.{Data, Tail}
use Rattle.scan.specs.declared.Scan.{Scan}
use Rattle.scan.specs.declared.stats.Stats.{Stats}
use Rattle.scan.specs.declared.stats.Stepped.{Stepped}
use Rattle.feed.proofs.Leads.{Leads, part_leads}
use Rattle.step.proofs.StepOrder.{step_order}
use Rattle.step.proofs.Runs.{run_on, step_partial}
use Rattle.step.proofs.Turns.{step_as, stored_other}

pub record Within (limit : ℕ) (c : Scan) (st : Stats) (bs : List ℕ) (i : ℕ) (c' : Scan) (st' : Stats) (j : ℕ)
    : Type 0 where
  pub here : AtState limit c.state c' bs j
  pub other : c.state ≡ Data → ⊥
  pub forth : i ≤ j
  pub same : (buf : List ℕ) → run_from limit c' st' buf bs j ≡ run_from limit c st buf bs i

pub record Turn (limit : ℕ) (c : Scan) (st : Stats) (bs : List ℕ) (i : ℕ) (c' : Scan) (st' : Stats) (j : ℕ)
    (r : Stepped)
    : Type 0 where
  pub within : Within limit c st bs i c' st' j
  pub step : r ≡ step_of limit c' st' (get_or bs j 0)
  pub byte : get_or bs j 0 < 256

pub within_start : {limit : ℕ} {c : Scan} {st : Stats} {bs : List ℕ} {i : ℕ} → AtState limit c.state c bs i
    → (c.state ≡ Data → ⊥) → Within limit c st bs i c st i
within_start h o = record { here = h; other = o; forth = omega arith; same = λ buf. refl }

-- A turn, once the state is known.
pub turn_in : {limit : ℕ} {c : Scan} {st : Stats} {bs : List ℕ} {i : ℕ} {c' : Scan} {st' : Stats} {j : ℕ}
    {r : Stepped} (s : State) → Within limit c st bs i c' st' j → c.state ≡ s
    → r ≡ step_in_state limit s c'.kind c'.matched c'.len c'.pos st' (get_or bs j 0) → get_or bs j 0 < 256
    → Turn limit c st bs i c' st' j r
turn_in s w e p b = record { within = w; step = p ∙ step_as _ s (w.here.state ∙ e) _ _ _; byte = b }

module _ {limit : ℕ} {c : Scan} {st : Stats} {bs : List ℕ} {i : ℕ} {c' : Scan} {st' : Stats} {j : ℕ} {r : Stepped}
    (t : Turn limit c st bs i c' st' j r) where
  kept : (buf : List ℕ) → buf ≡ stored c' buf (get_or bs j 0)
  kept buf = stored_other c' (get_or bs j 0) buf (λ e. t.within.other (sym t.within.here.state ∙ e))

  step_in : r ≡ step_in_state limit c.state c'.kind c'.matched c'.len c'.pos st' (get_or bs j 0)
  step_in = t.step ∙ sym (step_as c' c.state t.within.here.state (get_or bs j 0) limit st')

  leads : Leads c.state r
  leads = rw step_in (part_leads c'.kind c'.matched st' (get_or bs j 0) limit c.state c'.len c'.pos
      t.within.other)

  -- The loop may end with the turn.
  pub turn_ends : (buf : List ℕ) → PartialRun limit c st buf bs i (taking_of r (j + 1)) buf
  turn_ends buf =
      let h = step_partial limit c' st' buf bs j r buf t.within.here.inside t.step (kept buf)
      t.within.here.order t.byte in
      record {
        forth = omega (arith, h.forth, t.within.forth);
        inside = h.inside;
        order = h.order;
        rest = h.rest ∙ t.within.same buf;
      }

  -- Or it goes on in its state.
  turn_stays : r.scan.state ≡ c.state → j + 1 < length bs → Within limit c st bs i r.scan r.stats (j + 1)
  turn_stays z inner = record {
    here = record {
      order = rw t.step (step_order limit (get_or bs j 0) c' st' t.within.here.order t.byte);
      state = z;
      inside = inner;
    };
    other = t.within.other;
    forth = omega (arith, t.within.forth);
    same = λ buf. run_on limit c' st' buf bs j r buf t.within.here.inside t.step (kept buf) (leads.quiet z)
        ∙ t.within.same buf;
  }

  -- It does so if the step leads to a tail.
  pub turn_on : (r.scan.state ≡ Tail) ⊎ (r.scan.state ≡ c.state) → j + 1 < length bs
      → Within limit c st bs i r.scan r.stats (j + 1)
  turn_on (inl z) inner = turn_stays (z ∙ sym (leads.tail z)) inner
  turn_on (inr z) inner = turn_stays z inner
