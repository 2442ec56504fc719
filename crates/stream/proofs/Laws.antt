-- If a string passes the test `opens`, so does each prefix of it. The proof goes part by part.
use mathlib.Core.Path.{◌≡◌}
use mathlib.Core.List.{List, [], ◌∷◌, ◌++◌}
use mathlib.Core.Bool.{Bool, true}
use Prim.Native.Nat.{ℕ, zero, suc, ◌-◌}
use native.Mathlib.Omega.{arith}
use lib.Dec.{T, eqb}
use lib.ListN.{length, drop}
use Rattle.wire.specs.Number.{little}
use Rattle.wire.specs.Family.{header, tail, starting_with}
use Rattle.wire.specs.declared.Kind.{Kind}
use Rattle.std.specs.declared.option.Option.{Option}
use Rattle.std.specs.Prelude.{Some, None}
use Rattle.framing.proofs.Tests.{T_and}
use Rattle.stream.specs.Length.{in_range}
use Rattle.stream.proofs.Scan.{after, at_end, reads_length, reads, reads_as, opens}

-- Dropping bytes of s ++ t drops those of s first, then of t.
drop_append : (n : ℕ) (s t : List ℕ) → drop n (s ++ t) ≡ drop n s ++ drop (n - length s) t
drop_append zero s t = let z : 0 - length s ≡ 0 = omega arith in rw z
drop_append (suc n) [] t = let z : suc n - 0 ≡ suc n = omega arith in rw z
drop_append (suc n) (b ∷ s) t = let z : suc n - suc (length s) ≡ n - length s = omega arith in rw z (drop_append n s t)

-- A word with something after it.
after_prefix : (w : List ℕ) (next : List ℕ → Bool) → ((s t : List ℕ) → T (next (s ++ t)) → T (next s))
    → (s t : List ℕ) → T (after true w next (s ++ t)) → T (after true w next s)
after_prefix [] next f s t h = f s t h
after_prefix (x ∷ w) next f [] t h = tt
after_prefix (x ∷ w) next f (b ∷ s) t h =
    let p = (T_and (eqb b x) (after true w next (s ++ t))).0 h in
    (T_and (eqb b x) (after true w next s)).1 (p.0, after_prefix w next f s t p.1)

-- The end of a frame: nothing after it.
at_end_prefix : (s t : List ℕ) → T (at_end (s ++ t)) → T (at_end s)
at_end_prefix [] t h = tt
at_end_prefix (b ∷ s) t h = h

module _ (limit : ℕ) (k : Kind) where
  -- The tail of a frame, after n data bytes.
  tail_prefix : (n : ℕ) (s t : List ℕ) → T (after true (tail k) at_end (drop n (s ++ t)))
      → T (after true (tail k) at_end (drop n s))
  tail_prefix n s t h = after_prefix (tail k) at_end at_end_prefix (drop n s) (drop (n - length s) t)
      (rw (drop_append n s t) at h)

  -- A length, that many data bytes and the tail.
  length_prefix : (s t : List ℕ) → T (reads_length true limit k (s ++ t)) → T (reads_length true limit k s)
  length_prefix [] t h = tt
  length_prefix (lo ∷ []) t h = tt
  length_prefix (lo ∷ hi ∷ s) t h =
      let n : ℕ = little (lo ∷ hi ∷ []) in
      let p = (T_and (in_range limit n) (after true (tail k) at_end (drop n (s ++ t)))).0 h in
      (T_and (in_range limit n) (after true (tail k) at_end (drop n s))).1 (p.0, tail_prefix n s t p.1)

  reads_prefix : (s t : List ℕ) → T (reads true limit k (s ++ t)) → T (reads true limit k s)
  unfolding reads
  reads_prefix s t h = after_prefix (header k) (reads_length true limit k) length_prefix s t h

-- The same for the kind that the first byte announces, if any.
module _ (limit : ℕ) where
  as_prefix : (o : Option Kind) (s t : List ℕ) → T (reads_as true limit o (s ++ t)) → T (reads_as true limit o s)
  as_prefix (Some k) s t h = reads_prefix limit k s t h
  as_prefix None s t h = h

  pub opens_prefix : (s t : List ℕ) → T (opens limit (s ++ t)) → T (opens limit s)
  unfolding opens
  opens_prefix [] t h = tt
  opens_prefix (b ∷ s) t h = as_prefix (starting_with b) (b ∷ s) t h
