-- Which strings are open and which are whole frames, with the laws that the theory of divisions needs.
--   Laws       the five laws of open strings and whole frames
--   Framing    such strings, with a decision for each, and the laws
--   Waits      a string that is open and not whole
--   Divides    a division over the framing's strings; DividedIn, that there is exactly one
use mathlib.Core.List.{List, [], ◌∷◌, ◌++◌}
use Prim.Native.Nat.{ℕ}
use Rattle.framing.specs.Piece.{Piece}
use Rattle.framing.specs.Division.{Division, Divided}

-- Open: the string may become a frame. Whole: it is a frame; it counts as open too.
pub record Laws (Open Whole : List ℕ → Type 0) : Type 0 where
  -- before the first byte, any frame may come, and none is complete
  pub empty_open : Open []
  pub empty_not_whole : ¬ Whole []
  -- every prefix of an open string is open
  pub open_prefix : (s t : List ℕ) → Open (s ++ t) → Open s
  -- a whole frame is open, and no longer open with any byte after it
  pub whole_open : (s : List ℕ) → Whole s → Open s
  pub whole_ends : (s : List ℕ) (b : ℕ) → Whole s → ¬ Open (s ++ (b ∷ []))

pub record Framing : Type 1 where
  pub Open : List ℕ → Type 0
  pub Whole : List ℕ → Type 0
  pub open? : (s : List ℕ) → Dec (Open s)
  pub whole? : (s : List ℕ) → Dec (Whole s)
  pub laws : Laws Open Whole

-- Open and not whole: what may be pending between two calls.
abbrev pub Waits : Framing → List ℕ → Type 0
Waits F p = F.Open p × (¬ F.Whole p)

abbrev pub Divides : Framing → List ℕ → List Piece → Type 0
Divides F s ps = Division F.Open F.Whole s ps

abbrev pub DividedIn : Framing → List ℕ → Type 0
DividedIn F s = Divided F.Open F.Whole s
