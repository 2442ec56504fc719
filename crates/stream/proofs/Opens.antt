-- The test `opens` agrees with document 01: a string passes exactly if it is open.
use mathlib.Core.Path.{◌≡◌, refl}
use mathlib.Core.Logic.{⊎_elim}
use mathlib.Core.List.{List, [], ◌∷◌, ◌++◌, append-nil, append_assoc}
use mathlib.Core.Bool.{true}
use Prim.Native.Nat.{ℕ, ◌≤◌}
use native.Mathlib.Decide.{dec_le}
use native.Mathlib.Omega.{arith}
use lib.Dec.{T}
use lib.ListN.{length, take, drop, take-append-drop}
use lib.Seq.{length-take-le}
use Rattle.wire.specs.Number.{little}
use Rattle.wire.specs.Family.{header, tail, starting_with}
use Rattle.wire.specs.declared.Kind.{Kind}
use Rattle.wire.specs.declared.Kind.TheVariants.{Report}
use Rattle.std.specs.declared.option.Option.{Option}
use Rattle.std.specs.Prelude.{Some, None}
use Rattle.framing.proofs.Tests.{T_and}
use Rattle.stream.specs.Open.{Prefix, Open, in_header, in_length, in_data, in_tail}
use Rattle.stream.specs.Length.{InRange, in_range}
use Rattle.stream.proofs.Scan.{after, at_end, reads_length, reads, reads_as, opens}
use Rattle.stream.proofs.Laws.{opens_prefix}
use Rattle.stream.proofs.Headers.{opens_header}
use Rattle.stream.proofs.Words.{after_sound, tail_sound, range_true}
use Rattle.stream.proofs.Steps.{data_opens, tail_open}

module _ (limit : ℕ) (k : Kind) where
  -- After a length in range: data bytes, or all of them and a part of the tail.
  data_sound : (lo hi : ℕ) (r : List ℕ) → InRange limit (little (lo ∷ hi ∷ []))
      → Prefix (drop (little (lo ∷ hi ∷ [])) r) (tail k) → Open limit (header k ++ (lo ∷ hi ∷ r))
  data_sound lo hi r n p = go (dec_le (length r) (little (lo ∷ hi ∷ [])))
    where
      go : Dec (length r ≤ little (lo ∷ hi ∷ [])) → Open limit (header k ++ (lo ∷ hi ∷ r))
      go (yes l) = in_data k lo hi r n l refl
      go (no l) =
          let h : little (lo ∷ hi ∷ []) ≤ length r = omega arith in
          in_tail k lo hi (take (little (lo ∷ hi ∷ [])) r) (drop (little (lo ∷ hi ∷ [])) r) n (length-take-le _ r h) p
          (rw (take-append-drop (little (lo ∷ hi ∷ [])) r))

  length_sound : (r : List ℕ) → T (reads_length true limit k r) → Open limit (header k ++ r)
  length_sound [] h = in_header k ([], rw (append-nil (header k), append-nil (header k)))
  length_sound (lo ∷ []) h = in_length k lo refl
  length_sound (lo ∷ hi ∷ r) h =
      let n : ℕ = little (lo ∷ hi ∷ []) in
      let p = (T_and (in_range limit n) (after true (tail k) at_end (drop n r))).0 h in
      data_sound lo hi r ((range_true limit n).0 p.0)
      (⊎_elim (λ q. q.1) (λ e. ([], rw append-nil e)) (tail_sound true k (drop n r) p.1))

  reads_sound : (s : List ℕ) → T (reads true limit k s) → Open limit s
  unfolding reads
  reads_sound s h = ⊎_elim (λ p. in_header k p.1) (λ p. rw p.1 (length_sound p.0 p.2))
      (after_sound true (header k) (reads_length true limit k) s h)

module _ (limit : ℕ) where
  as_sound : (o : Option Kind) (s : List ℕ) → T (reads_as true limit o s) → Open limit s
  as_sound (Some k) s h = reads_sound limit k s h
  as_sound None s h = absurd h

  pub opens_sound : (s : List ℕ) → T (opens limit s) → Open limit s
  unfolding opens
  opens_sound [] h = in_header Report (header Report, refl)
  opens_sound (b ∷ s) h = as_sound (starting_with b) (b ∷ s) h

  -- A part of a header passes, since the header does.
  header_complete : (k : Kind) (s : List ℕ) → Prefix s (header k) → T (opens limit s)
  header_complete k s p = opens_prefix limit s p.0 (rw p.1 (header_opens k))
    where
      header_opens : (k : Kind) → T (opens limit (header k))
      header_opens k = rw (← append-nil (header k), opens_header limit k []) tt

  pub opens_complete : (s : List ℕ) → Open limit s → T (opens limit s)
  opens_complete s (in_header k p) = header_complete k s p
  opens_complete s (in_length k b e) = rw (e, opens_header limit k (b ∷ [])) tt
  opens_complete s (in_data k lo hi d n l e) = rw (e, data_opens limit k lo hi d l, (range_true limit _).1 n) tt
  -- A part of a tail passes, since all of it does.
  opens_complete s (in_tail k lo hi d t n l p e) =
      let whole : s ++ p.0 ≡ header k ++ (lo ∷ hi ∷ (d ++ tail k)) = rw (e, ← p.1) (simp append_assoc) in
      opens_prefix limit s p.0 (rw (whole, tail_open limit k lo hi d l ((range_true limit _).1 n)) tt)
