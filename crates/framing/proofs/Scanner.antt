-- The scanner: the rule of a division, read from left to right. What came before a byte matters only through the
-- pending string, which is the unfinished end of it.
--   Step         what a byte did: the pieces that it closed, the frame that it ended, what is pending now
--   step F p c   what the byte c does after the pending string p
--   closed F p s the pieces that the string s closes after p
--   rest F p s   what is pending after s, if p was pending before
--   leftover p   a pending string at the end of a stream, as its unfinished end
--   pieces F s   the pieces of the string s
use mathlib.Core.List.{List, [], ◌∷◌, ◌++◌}
use mathlib.Core.Option.{Option, none, some}
use Prim.Native.Nat.{ℕ}
use Rattle.framing.proofs.Framing.{Framing}
use Rattle.framing.specs.Piece.{Piece, stray, broken, whole, unfinished}

pub record Step : Type 0 where
  pub closed : List Piece
  pub ended : Option (List ℕ)
  pub pending : List ℕ

-- The byte completed the frame s; left the open string s; was stray; or broke the open string s, and then did r.
abbrev pub ends : List ℕ → Step
ends s = record { closed = whole s ∷ []; ended = some s; pending = [] }

abbrev pub leaves_open : List ℕ → Step
leaves_open s = record { closed = []; ended = none; pending = s }

abbrev pub strays : ℕ → Step
strays c = record { closed = stray c ∷ []; ended = none; pending = [] }

abbrev pub breaks : List ℕ → Step → Step
breaks s r = record { closed = broken s ∷ r.closed; ended = r.ended; pending = r.pending }

-- With the byte added, the string s is a whole frame, or it waits, or the step is `else`.
abbrev pub grown : {W O : Type 0} → Dec W → Dec O → List ℕ → Step → Step
grown (yes w) o s else = ends s
grown (no w) (yes o) s else = leaves_open s
grown (no w) (no o) s else = else

module _ (F : Framing) where
  -- A byte with nothing before it: it is a frame, or begins one, or is stray.
  abbrev pub start : ℕ → Step
  start c = grown (F.whole? (c ∷ [])) (F.open? (c ∷ [])) (c ∷ []) (strays c)

  -- A byte that does not fit breaks what is pending. Then only that byte is tried as a new start.
  abbrev pub over : List ℕ → ℕ → Step
  over [] c = strays c
  over (b ∷ p) c = breaks (b ∷ p) (start c)

  -- A byte after a pending string: it ends a frame, keeps the string open, or does not fit.
  abbrev pub step : List ℕ → ℕ → Step
  step p c = grown (F.whole? (p ++ (c ∷ []))) (F.open? (p ++ (c ∷ []))) (p ++ (c ∷ [])) (over p c)

  abbrev pub closed : List ℕ → List ℕ → List Piece
  closed p [] = []
  closed p (c ∷ s) = (step p c).closed ++ closed (step p c).pending s

  abbrev pub rest : List ℕ → List ℕ → List ℕ
  rest p [] = p
  rest p (c ∷ s) = rest (step p c).pending s

abbrev pub leftover : List ℕ → List Piece
leftover [] = []
leftover (b ∷ p) = unfinished (b ∷ p) ∷ []

abbrev pub pieces : Framing → List ℕ → List Piece
pieces F s = closed F [] s ++ leftover (rest F [] s)
