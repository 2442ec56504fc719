-- Where a broken start ends, in a bad length and in a broken tail: document 01's traps of the stream.
use mathlib.Core.Path.{◌≡◌, refl, ◌∙◌}
use mathlib.Core.Logic.{◌≢◌}
use mathlib.Core.List.{List, [], ◌∷◌, ◌++◌, append_assoc}
use Prim.Native.Nat.{ℕ, ◌<◌}
use native.Mathlib.Omega.{arith}
use lib.Dec.{eqb}
use lib.ListN.{length, get_or, take, length-append}
use borrow.Author.Tests.{eq-eqb, ne_eqb}
use Rattle.wire.specs.Number.{little}
use Rattle.wire.specs.Family.{header, tail}
use Rattle.wire.proofs.Families.{header_length}
use Rattle.wire.specs.declared.Kind.{Kind}
use Rattle.framing.proofs.Framing.{Divides}
use Rattle.framing.specs.Piece.{Piece, broken}
use Rattle.framing.specs.Division.{is_broken}
use Rattle.stream.specs.Length.{InRange, in_range}
use Rattle.stream.specs.Open.{Open, in_length}
use Rattle.stream.proofs.Scan.{opens}
use Rattle.std.proofs.lemmas.Bool.{false_from_ne_true}
use Rattle.stream.proofs.Words.{range_true}
use Rattle.stream.proofs.Steps.{length_not_whole, data_opens, tail_opens}
use Rattle.stream.proofs.Link.{link, is_open, not_open, not_whole, open_prefix, whole_ends}

-- A string that begins with a header is not empty.
not_empty : (k : Kind) (r : List ℕ) → header k ++ r ≢ []
not_empty k r e =
    let z : length (header k ++ r) ≡ 0 = rw e in
    absurd (omega (arith, header_length k, length-append (header k) r))

module _ (limit : ℕ) where
  -- A string that is open with b added, but not with c, is a broken start before c.
  breaks : (s : List ℕ) (b c : ℕ) (t : List ℕ) (ps : List Piece) → s ≢ [] → Open limit (s ++ (b ∷ []))
      → ¬ Open limit (s ++ (c ∷ [])) → Divides (link limit) (c ∷ t) ps
      → Divides (link limit) (s ++ (c ∷ t)) (broken s ∷ ps)
  breaks s b c t ps e o n d = is_broken e (open_prefix limit s (b ∷ []) o) (λ w. whole_ends limit s b w o) n d

  -- A header, a byte and another are open exactly if the two make a length in range.
  pub length_opened : (k : Kind) (lo hi : ℕ)
      → opens limit ((header k ++ (lo ∷ [])) ++ (hi ∷ [])) ≡ in_range limit (little (lo ∷ hi ∷ []))
  length_opened k lo hi = rw (append_assoc (header k) (lo ∷ []) (hi ∷ [])) (data_opens limit k lo hi [] (omega arith))

  pub bad_length : (k : Kind) (lo hi : ℕ) (t : List ℕ) (ps : List Piece) → (InRange limit (little (lo ∷ hi ∷ [])) → ⊥)
      → Divides (link limit) (hi ∷ t) ps
      → Divides (link limit) ((header k ++ (lo ∷ [])) ++ (hi ∷ t)) (broken (header k ++ (lo ∷ [])) ∷ ps)
  bad_length k lo hi t ps r d =
      is_broken (not_empty k (lo ∷ [])) (in_length k lo refl) (not_whole limit _ (length_not_whole limit k lo))
      (not_open limit _ (length_opened k lo hi ∙ false_from_ne_true _ (λ e. r ((range_true limit _).0 e)))) d

  module _ (k : Kind) (lo hi : ℕ) (d : List ℕ) (m : ℕ) (r : InRange limit (little (lo ∷ hi ∷ [])))
      (l : length d ≡ little (lo ∷ hi ∷ [])) (u : m < 4) where
    pub tail_spelled : (b : ℕ) → (header k ++ (lo ∷ hi ∷ (d ++ take m (tail k)))) ++ (b ∷ [])
        ≡ header k ++ (lo ∷ hi ∷ (d ++ (take m (tail k) ++ (b ∷ []))))
    tail_spelled b = simp append_assoc

    -- After all the data bytes and m bytes of the tail, only the tail's next byte keeps the string open.
    pub tail_goes_on : (b : ℕ)
        → opens limit ((header k ++ (lo ∷ hi ∷ (d ++ take m (tail k)))) ++ (b ∷ [])) ≡ eqb b (get_or (tail k) m 0)
    tail_goes_on b = rw (tail_spelled b) (tail_opens limit k lo hi d l ((range_true limit _).1 r) m b u)

  pub broken_tail : (k : Kind) (lo hi : ℕ) (d : List ℕ) (m c : ℕ) (t : List ℕ) (ps : List Piece)
      → InRange limit (little (lo ∷ hi ∷ [])) → length d ≡ little (lo ∷ hi ∷ []) → m < 4 → c ≢ get_or (tail k) m 0
      → Divides (link limit) (c ∷ t) ps
      → Divides (link limit) ((header k ++ (lo ∷ hi ∷ (d ++ take m (tail k)))) ++ (c ∷ t))
      (broken (header k ++ (lo ∷ hi ∷ (d ++ take m (tail k)))) ∷ ps)
  broken_tail k lo hi d m c t ps r l u e v =
      let b : ℕ = get_or (tail k) m 0 in
      breaks (header k ++ (lo ∷ hi ∷ (d ++ take m (tail k)))) b c t ps (not_empty k _)
      (is_open limit _ (tail_goes_on k lo hi d m r l u b ∙ eq-eqb b b refl))
      (not_open limit _ (tail_goes_on k lo hi d m r l u c ∙ ne_eqb c b e)) v
