-- Which strings of the LD2410's link are open and which are whole frames: document 01, "The division of a stream".
--   Prefix s t      s is a prefix of t
--   Open limit s    01's open, over the largest length that the stream takes, which 01 sets to 54
--   Whole limit s   01's whole frame
use Rattle.std.specs.Prelude.{◌≡◌, List, [], ◌∷◌, ◌++◌, ℕ, ◌≤◌, length}
use Rattle.wire.specs.Number.{little}
use Rattle.stream.specs.Length.{InRange}
use Rattle.wire.specs.Family.{header, tail}
use Rattle.wire.specs.declared.Kind.{Kind}

abbrev pub Prefix : List ℕ → List ℕ → Type 0
Prefix s t = (r : List ℕ) × (s ++ r ≡ t)

-- "A string is open if it is"
pub data Open (limit : ℕ) (s : List ℕ) : Type 0 where
  -- "a prefix of a header"
  in_header : (k : Kind) → Prefix s (header k) → Open limit s
  -- "or a header and any one byte"
  in_length : (k : Kind) (b : ℕ) → s ≡ header k ++ (b ∷ []) → Open limit s
  -- "or a header, a length of 2 to 54, at most that many data bytes"
  in_data : (k : Kind) (lo hi : ℕ) (d : List ℕ) → InRange limit (little (lo ∷ hi ∷ []))
      → length d ≤ little (lo ∷ hi ∷ []) → s ≡ header k ++ (lo ∷ hi ∷ d) → Open limit s
  -- "and, once they are all there, a prefix of that family's tail"
  in_tail : (k : Kind) (lo hi : ℕ) (d t : List ℕ) → InRange limit (little (lo ∷ hi ∷ []))
      → length d ≡ little (lo ∷ hi ∷ []) → Prefix t (tail k)
      → s ≡ header k ++ (lo ∷ hi ∷ (d ++ t)) → Open limit s

-- "It is a whole frame if that tail is complete."
pub record Whole (limit : ℕ) (s : List ℕ) : Type 0 where
  pub kind : Kind
  pub lo : ℕ
  pub hi : ℕ
  pub held : List ℕ
  pub is_in_range : InRange limit (little (lo ∷ hi ∷ []))
  pub all_there : length held ≡ little (lo ∷ hi ∷ [])
  pub spelled : s ≡ header kind ++ (lo ∷ hi ∷ (held ++ tail kind))
