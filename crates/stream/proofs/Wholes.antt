-- The test `wholes` agrees with document 01: a string passes exactly if it is a whole frame.
use mathlib.Core.Path.{◌≡◌, ap}
use mathlib.Core.Logic.{⊎_elim}
use mathlib.Core.List.{List, [], ◌∷◌, ◌++◌}
use mathlib.Core.Bool.{false}
use Prim.Native.Nat.{ℕ, ◌≤◌}
use native.Mathlib.Omega.{arith}
use lib.Dec.{T}
use lib.ListN.{length, take, drop, take-append-drop, length-drop}
use lib.Seq.{length-take-le}
use Rattle.wire.specs.Number.{little}
use Rattle.wire.specs.Family.{header, tail, starting_with}
use Rattle.wire.proofs.Families.{tail_length}
use Rattle.wire.specs.declared.Kind.{Kind}
use Rattle.std.specs.declared.option.Option.{Option}
use Rattle.std.specs.Prelude.{Some, None}
use Rattle.framing.proofs.Tests.{T_and}
use Rattle.stream.specs.Open.{Whole}
use Rattle.stream.specs.Length.{InRange, in_range}
use Rattle.stream.proofs.Scan.{after, at_end, reads_length, reads, reads_as, wholes}
use Rattle.stream.proofs.Words.{after_sound, tail_sound, range_true}
use Rattle.stream.proofs.Steps.{tail-whole}

module _ (limit : ℕ) (k : Kind) where
  -- If exactly the tail follows the data bytes, the string is a whole frame.
  frame_sound : (lo hi : ℕ) (r : List ℕ) → InRange limit (little (lo ∷ hi ∷ []))
      → drop (little (lo ∷ hi ∷ [])) r ≡ tail k → Whole limit (header k ++ (lo ∷ hi ∷ r))
  frame_sound lo hi r n e =
      let m : ℕ = little (lo ∷ hi ∷ []) in
      let l : m ≤ length r = omega (arith, ap length e, tail_length k, length-drop m r) in
      record {
        kind = k;
        lo = lo;
        hi = hi;
        held = take m r;
        is_in_range = n;
        all_there = length-take-le m r l;
        spelled = rw (← e, take-append-drop m r);
      }

  length_whole : (r : List ℕ) → T (reads_length false limit k r) → Whole limit (header k ++ r)
  length_whole [] h = absurd h
  length_whole (lo ∷ []) h = absurd h
  length_whole (lo ∷ hi ∷ r) h =
      let n : ℕ = little (lo ∷ hi ∷ []) in
      let p = (T_and (in_range limit n) (after false (tail k) at_end (drop n r))).0 h in
      frame_sound lo hi r ((range_true limit n).0 p.0)
      (⊎_elim (λ q. absurd q.0) (λ e. e) (tail_sound false k (drop n r) p.1))

  reads_whole : (s : List ℕ) → T (reads false limit k s) → Whole limit s
  unfolding reads
  reads_whole s h = ⊎_elim (λ p. absurd p.0) (λ p. rw p.1 (length_whole p.0 p.2))
      (after_sound false (header k) (reads_length false limit k) s h)

module _ (limit : ℕ) where
  as_whole : (o : Option Kind) (s : List ℕ) → T (reads_as false limit o s) → Whole limit s
  as_whole (Some k) s h = reads_whole limit k s h
  as_whole None s h = absurd h

  pub wholes_sound : (s : List ℕ) → T (wholes limit s) → Whole limit s
  unfolding wholes
  wholes_sound [] h = absurd h
  wholes_sound (b ∷ s) h = as_whole (starting_with b) (b ∷ s) h

  pub wholes_complete : (s : List ℕ) → Whole limit s → T (wholes limit s)
  wholes_complete s w =
      let r = (range_true limit _).1 w.is_in_range in
      rw (w.spelled, tail-whole limit w.kind w.lo w.hi w.held w.all_there r) tt
