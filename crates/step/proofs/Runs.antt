-- The run of a slice, byte by byte and part by part.
use mathlib.Core.Path.{◌≡◌, refl, sym, ap, ◌∙◌}
use mathlib.Core.List.{List}
use mathlib.Core.Bool.{true, false, true≢false}
use Prim.Native.Nat.{ℕ, suc, ◌+◌, ◌≤◌, ◌<◌}
use native.Mathlib.Numerals.{add-one}
use native.Mathlib.Omega.{arith}
use lib.ListN.{length, drop, get_or, drop_of_length-le}
use lib.Seq.{drop-cons}
use Rattle.std.specs.Prelude.{Some, None, is_some}
use Rattle.std.specs.declared.option.Option.{Option}
use Rattle.scan.specs.Scan.{well_formed}
use Rattle.step.specs.Step.{step_of, stored}
use Rattle.step.specs.Slice.{Run, run_at, one_more_taken, then_run, run_of}
use Rattle.step.specs.Phase.{after, run_from, on_from, PartialRun}
use Rattle.scan.specs.Start.{taking_of}
use Rattle.scan.specs.declared.Scan.{Scan}
use Rattle.scan.specs.declared.stats.Stats.{Stats}
use Rattle.scan.specs.declared.stats.Ended.{Ended}
use Rattle.scan.specs.declared.stats.Stepped.{Stepped}
use Rattle.scan.specs.declared.stats.Scanned.{Scanned}
use Rattle.step.proofs.StepOrder.{step_order}

-- The run r, with n bytes taken.
abbrev counting : Run → ℕ → Run
counting r n = run_at r.scanned.scan r.scanned.stats r.scanned.ended n r.buf

after_more : (i : ℕ) (r : Run) → after (i + 1) r ≡ after i (one_more_taken r)
after_more i r = ap (counting r) (omega arith)

module _ (limit : ℕ) (c : Scan) (st : Stats) (buf bs : List ℕ) where
  pub run_start : run_from limit c st buf bs 0 ≡ run_of limit c st buf bs
  unfolding run_from
  run_start = ap (counting (run_of limit c st buf bs)) (omega arith)

  module _ (i : ℕ) where
    pub run_end : length bs ≤ i → run_at c st None i buf ≡ run_from limit c st buf bs i
    unfolding run_from run_of
    run_end l = rw (drop_of_length-le bs l) (ap (λ n. run_at c st None n buf) (omega arith))

    -- Byte i, its step r and the buffer d that it leaves.
    module _ (r : Stepped) (d : List ℕ) (inner : i < length bs) (e : r ≡ step_of limit c st (get_or bs i 0))
        (f : d ≡ stored c buf (get_or bs i 0)) where
      pub run_next : after i (then_run r.ended r d (run_of limit r.scan r.stats d (drop (suc i) bs)))
          ≡ run_from limit c st buf bs i
      unfolding run_from run_of
      run_next = rw (drop-cons bs i 0 inner, e, f)

      pub run_on : r.ended ≡ None → run_from limit r.scan r.stats d bs (i + 1) ≡ run_from limit c st buf bs i
      unfolding run_from
      run_on q = after_more i _ ∙ (rw add-one (rw q at run_next))

      taking_rest : (x : Option Ended) → r.ended ≡ x
          → on_from limit (taking_of r (i + 1)) d bs ≡ run_from limit c st buf bs i
      unfolding on_from
      taking_rest (Some x) q = rw q (rw q at run_next)
      taking_rest None q = rw q (run_on q)

      -- One byte's step is a part.
      pub step_partial : well_formed limit c ≡ true → get_or bs i 0 < 256
          → PartialRun limit c st buf bs i (taking_of r (i + 1)) d
      step_partial o l = record {
        forth = omega arith;
        inside = omega arith;
        order = rw e (step_order limit (get_or bs i 0) c st o l);
        rest = taking_rest r.ended refl;
      }

-- The run from byte i on, after what came before, is the whole run.
pub record Left (limit : ℕ) (whole : Run) (c : Scan) (st : Stats) (buf bs : List ℕ) (i : ℕ) : Type 0 where
  pub inside : i ≤ length bs
  pub order : well_formed limit c ≡ true
  pub rest : run_from limit c st buf bs i ≡ whole

pub left_start : {limit : ℕ} {c : Scan} {st : Stats} {buf bs : List ℕ} → well_formed limit c ≡ true
    → Left limit (run_of limit c st buf bs) c st buf bs 0
left_start {limit} {c} {st} {buf} {bs} o =
    record { inside = omega arith; order = o; rest = run_start limit c st buf bs }

module _ {limit : ℕ} {whole : Run} {c : Scan} {st : Stats} {buf bs : List ℕ} {i : ℕ}
    (h : Left limit whole c st buf bs i) where
  pub left_end : length bs ≤ i → run_at c st None i buf ≡ whole
  left_end l = run_end limit c st buf bs i l ∙ h.rest

  -- The next part.
  module _ {r : Scanned} {d : List ℕ} (f : PartialRun limit c st buf bs i r d) where
    pub left_frame : is_some r.ended ≡ true → record { scanned = r; buf = d } ≡ whole
    unfolding on_from
    left_frame q = go r.ended refl q
      where
        go : (e : Option Ended) → r.ended ≡ e → is_some e ≡ true → record { scanned = r; buf = d } ≡ whole
        go (Some x) z q = let rest = rw z at f.rest in rw z (rest ∙ h.rest)
        go None z q = absurd (true≢false (sym q))

    pub left_on : is_some r.ended ≡ false → Left limit whole r.scan r.stats d bs r.taken
    unfolding on_from
    left_on q = record { inside = f.inside; order = f.order; rest = go r.ended refl q }
      where
        go : (e : Option Ended) → r.ended ≡ e → is_some e ≡ false → run_from limit r.scan r.stats d bs r.taken ≡ whole
        go (Some x) z q = absurd (true≢false q)
        go None z q = let rest = rw z at f.rest in rest ∙ h.rest

-- The laws of `Left`, for tactics.
pub ruleset lefts = (left_start, left_end, left_frame, left_on)
