-- The LD2410's framing, over the largest length `limit`: document 01's open strings and whole frames, which the tests
-- decide.
--   link limit   the framing, with its laws
use mathlib.Core.Path.{◌≡◌, refl, sym, ap, ◌∙◌}
use mathlib.Core.List.{List, [], ◌∷◌, ◌++◌, append-nil, append_assoc}
use mathlib.Core.Bool.{true, false}
use Prim.Native.Nat.{ℕ, ◌+◌, ◌≤◌}
use native.Mathlib.Omega.{arith}
use lib.ListN.{length, length-append}
use Rattle.wire.specs.Number.{little}
use Rattle.wire.specs.Family.{header, tail}
use Rattle.wire.proofs.Families.{header_length, tail_length}
use Rattle.wire.specs.declared.Kind.{Kind}
use Rattle.wire.specs.declared.Kind.TheVariants.{Report, Command}
use Rattle.frame.specs.Envelope.{announced}
use Rattle.framing.proofs.Framing.{Framing}
use Rattle.framing.proofs.Tests.{by_test}
use Rattle.stream.specs.Open.{Prefix, Open, in_header, in_length, in_data, in_tail, Whole}
use Rattle.stream.proofs.Scan.{opens, wholes}
use Rattle.stream.proofs.Laws.{opens_prefix}
use Rattle.stream.proofs.Opens.{opens_sound, opens_complete}
use Rattle.stream.proofs.Wholes.{wholes_sound, wholes_complete}

-- The length that a string announces after a header.
announced_is : (k : Kind) (lo hi : ℕ) (r : List ℕ) → announced (header k ++ (lo ∷ hi ∷ r)) ≡ little (lo ∷ hi ∷ [])
announced_is Report lo hi r = refl
announced_is Command lo hi r = refl

-- The length of a string that begins with a header and a length.
size : (k : Kind) (lo hi : ℕ) (r s : List ℕ) → s ≡ header k ++ (lo ∷ hi ∷ r) → length s ≡ 6 + length r
size k lo hi r s e = omega (arith, ap length e, length-append (header k) (lo ∷ hi ∷ r), header_length k)

module _ (limit : ℕ) where
  -- A string is what its test says.
  pub is_open : (s : List ℕ) → opens limit s ≡ true → Open limit s
  is_open s e = opens_sound limit s (rw e tt)

  pub not_open : (s : List ℕ) → opens limit s ≡ false → ¬ Open limit s
  not_open s e o = rw e at (opens_complete limit s o)

  pub is_whole : (s : List ℕ) → wholes limit s ≡ true → Whole limit s
  is_whole s e = wholes_sound limit s (rw e tt)

  pub not_whole : (s : List ℕ) → wholes limit s ≡ false → ¬ Whole limit s
  not_whole s e w = rw e at (wholes_complete limit s w)

  pub whole_empty : ¬ Whole limit []
  unfolding wholes
  whole_empty w = not_whole [] refl w

  pub open_prefix : (s t : List ℕ) → Open limit (s ++ t) → Open limit s
  open_prefix s t o = opens_sound limit s (opens_prefix limit s t (opens_complete limit (s ++ t) o))

  pub whole_open : (s : List ℕ) → Whole limit s → Open limit s
  whole_open s w =
      let all : Prefix (tail w.kind) (tail w.kind) = ([], append-nil (tail w.kind)) in
      in_tail w.kind w.lo w.hi w.held (tail w.kind) w.is_in_range w.all_there all w.spelled

  -- After a header and a length, an open string has at most as many data bytes as the length says, and a tail.
  module _ (s : List ℕ) (k : Kind) (lo hi : ℕ) (r : List ℕ) (e : s ≡ header k ++ (lo ∷ hi ∷ r)) where
    same : (j : Kind) (a b : ℕ) (d : List ℕ) → s ≡ header j ++ (a ∷ b ∷ d) → little (lo ∷ hi ∷ []) ≡ little (a ∷ b ∷ [])
    same j a b d q = sym (announced_is k lo hi r) ∙ ap announced (sym e ∙ q) ∙ announced_is j a b d

    open_short : Open limit s → length r ≤ little (lo ∷ hi ∷ []) + 4
    open_short (in_header j p) =
        omega (arith, size k lo hi r s e, ap length p.1, length-append s p.0, header_length j)
    open_short (in_length j b q) =
        omega (arith, size k lo hi r s e, ap length q, length-append (header j) (b ∷ []), header_length j)
    open_short (in_data j a b d n l q) = omega (arith, size k lo hi r s e, size j a b d s q, same j a b d q)
    open_short (in_tail j a b d t n l p q) = omega (
      arith,
      size k lo hi r s e,
      size j a b (d ++ t) s q,
      same j a b (d ++ t) q,
      length-append d t,
      ap length p.1,
      length-append t p.0,
      tail_length j,
    )

  pub whole_ends : (s : List ℕ) (b : ℕ) → Whole limit s → ¬ Open limit (s ++ (b ∷ []))
  whole_ends s b w o =
      let k = w.kind in
      let r : List ℕ = (w.held ++ tail k) ++ (b ∷ []) in
      let e : s ++ (b ∷ []) ≡ header k ++ (w.lo ∷ w.hi ∷ r) =
      ap (λ x. x ++ (b ∷ [])) w.spelled ∙ append_assoc (header k) (w.lo ∷ w.hi ∷ (w.held ++ tail k)) (b ∷ []) in
      omega (
        arith,
        open_short (s ++ (b ∷ [])) k w.lo w.hi r e o,
        length-append (w.held ++ tail k) (b ∷ []),
        length-append w.held (tail k),
        tail_length k,
        w.all_there,
      )

abbrev pub link : ℕ → Framing
link limit = record {
  Open = Open limit;
  Whole = Whole limit;
  open? = λ s. by_test (opens limit s) (is_open limit s) (not_open limit s);
  whole? = λ s. by_test (wholes limit s) (is_whole limit s) (not_whole limit s);
  laws = record {
    empty_open = in_header Report (header Report, refl);
    empty_not_whole = whole_empty limit;
    open_prefix = open_prefix limit;
    whole_open = whole_open limit;
    whole_ends = whole_ends limit;
  };
}
