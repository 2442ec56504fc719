-- Demand 3, for any module: what every list of calls on a parser must do.
--   Protocol A K           what the papers say of a module's stream; A is the type of answers, K names the counters
--   delivery d             the answer of a call, if it has a frame; deliveries ds, those of a list of calls, in order
--   answer p               the answer that delivers the piece p, if it is a whole frame that decodes; answers ps, those
--                          of a list of pieces, in order
--   join_over f ts          the lists that f gives for the strings ts, joined; sum_over f ts, the sum of such numbers
--   LastEnds ps u t f      the last byte that a call took ends the whole frame f
--   Answered P ps u t a    the answer a is right for the bytes t that its call took
--   Told ps n m k          the count k that a slice call gave is right
--   CallRight P pieces u v d   a call that did d is right, between the bytes u and v of its stretch
--   Fulfilled P E p s calls   the claim
--   Same E E' s s' calls   two parsers did the same, and left the same counters, unfinished length and pending string
use Rattle.std.specs.Prelude.{◌≡◌, ◌≢◌, ◌↔◌, List, [], ◌∷◌, ◌++◌, Bool, true, false, cond, ℕ, ◌+◌, ◌≤◌, ◌<◌, min, length, take}
use Rattle.framing.specs.Piece.{Piece, stray, broken, whole, unfinished}
use Rattle.framing.specs.Division.{Divided, EndsAt, cut}
use Rattle.framing.specs.Tally.{sum}
use Rattle.engine.specs.Calls.{Call, Did, fed, sliced, cleared, stretches, so_far, up_to_reset}
use Rattle.engine.specs.Engine.{Engine, history, final}

pub record Protocol (A K : Type 0) : Type 1 where
  -- which strings are open, and which are whole frames
  pub Open : List ℕ → Type 0
  pub Whole : List ℕ → Type 0
  -- whether a whole frame decodes, and the answer that delivers it
  pub decodes : List ℕ → Bool
  pub answer_of : List ℕ → A
  -- whether an answer has a frame, and the answer "no frame"
  pub delivers : A → Bool
  pub none : A
  -- what a piece adds to a counter
  pub adds : K → Piece → ℕ

module _ {A : Type 0} (delivers : A → Bool) where
  abbrev pub delivery : Did A → List A
  delivery (fed b a) = cond (delivers a) (a ∷ []) []
  delivery (sliced bs k a) = cond (delivers a) (a ∷ []) []
  delivery cleared = []

  abbrev pub deliveries : List (Did A) → List A
  deliveries [] = []
  deliveries (d ∷ ds) = delivery d ++ deliveries ds

module _ {A : Type 0} (decodes : List ℕ → Bool) (answer_of : List ℕ → A) where
  abbrev pub answer : Piece → List A
  answer (stray b) = []
  answer (broken s) = []
  answer (whole s) = cond (decodes s) (answer_of s ∷ []) []
  answer (unfinished s) = []

  abbrev pub answers : List Piece → List A
  answers [] = []
  answers (p ∷ ps) = answer p ++ answers ps

abbrev pub join_over : {A : Type 0} → (List ℕ → List A) → List (List ℕ) → List A
join_over f [] = []
join_over f (t ∷ ts) = f t ++ join_over f ts

abbrev pub sum_over : (List ℕ → ℕ) → List (List ℕ) → ℕ
sum_over f [] = 0
sum_over f (t ∷ ts) = f t + sum_over f ts

-- A call took the bytes t after the bytes u of a stretch with the pieces ps.
abbrev pub LastEnds : List Piece → (u t f : List ℕ) → Type 0
LastEnds ps u t f = (t ≢ []) × EndsAt ps (length u + length t) f

pub record Answered {A K : Type 0} (P : Protocol A K) (ps : List Piece) (u t : List ℕ) (a : A) : Type 0 where
  -- it delivered exactly when the last byte that it took ends a whole frame that decodes
  pub when : (P.delivers a ≡ true) ↔ ((f : List ℕ) × LastEnds ps u t f × (P.decodes f ≡ true))
  -- and it delivered that one
  pub which : (f : List ℕ) → LastEnds ps u t f → P.decodes f ≡ true → a ≡ P.answer_of f
  -- else its answer was "no frame"
  pub else : P.delivers a ≡ false → a ≡ P.none

-- The slice has m bytes and comes after n bytes of its stretch; ps are the pieces of the stretch with the whole slice
-- behind it. The count k reaches the end of the first whole frame that ends at a byte of the slice, or the slice's end
-- if none does.
pub data Told (ps : List Piece) (n m k : ℕ) : Type 0 where
  to_frame : (f : List ℕ) → 0 < k → k ≤ m → EndsAt ps (n + k) f
      → ((j : ℕ) (g : List ℕ) → 0 < j → j < k → ¬ EndsAt ps (n + j) g) → Told ps n m k
  to_end : k ≡ m → ((j : ℕ) (g : List ℕ) → 0 < j → j ≤ m → ¬ EndsAt ps (n + j) g) → Told ps n m k

abbrev pub CallRight : {A K : Type 0} → Protocol A K → (List ℕ → List Piece) → (u v : List ℕ) → Did A → Type 0
CallRight P pieces u v (fed b a) = Answered P (pieces (u ++ (b ∷ v))) u (b ∷ []) a
CallRight P pieces u v (sliced bs k a) = Answered P (pieces (u ++ (take k bs ++ v))) u (take k bs) a
    × Told (pieces (u ++ bs)) (length u) (length bs) k
CallRight P pieces u v cleared = Unit {0}

-- The calls are made one after the other, the first on the state s, in which the string p is pending: [] in a fresh
-- state, and after a reset.
pub record Fulfilled {S A K : Type 0} (P : Protocol A K) (E : Engine S A K) (p : List ℕ) (s : S) (calls : List Call)
    : Type 0 where
  -- the bytes of each stretch divide in exactly one way
  pub divide : (t : List ℕ) → Divided P.Open P.Whole t
  -- each call delivered exactly the frame that decodes and ends with the last byte it took, and each slice call gave
  -- exactly the count of the bytes it took
  pub right : (before : List (Did A)) (d : Did A) (after : List (Did A))
      → history E s calls ≡ before ++ (d ∷ after)
      → CallRight P (λ t. (divide t).pieces) (so_far p before) (up_to_reset after) d
  -- the frames delivered are all the whole frames that decode, each once, in order
  pub delivered : deliveries P.delivers (history E s calls)
      ≡ join_over (λ t. answers P.decodes P.answer_of (divide t).pieces) (stretches p (history E s calls))
  -- each counter holds what it held at the start plus its total over all the stretches, or `max` if that is less
  pub counted : (k : K) → E.counter k (final E s calls)
      ≡ min (E.counter k s + sum_over (λ t. sum (P.adds k) (divide t).pieces) (stretches p (history E s calls)))
      E.max
  -- what is pending now is the unfinished end of the last stretch, and unfinished is its length
  pub pending : E.pending (final E s calls) ≡ cut (divide (so_far p (history E s calls))).pieces
  pub unfinished : E.unfinished (final E s calls) ≡ length (cut (divide (so_far p (history E s calls))).pieces)

pub record Same {S S' A K : Type 0} (E : Engine S A K) (E' : Engine S' A K) (s : S) (s' : S') (calls : List Call)
    : Type 0 where
  pub histories : history E s calls ≡ history E' s' calls
  pub counters : (k : K) → E.counter k (final E s calls) ≡ E'.counter k (final E' s' calls)
  pub unfinisheds : E.unfinished (final E s calls) ≡ E'.unfinished (final E' s' calls)
  pub pendings : E.pending (final E s calls) ≡ E'.pending (final E' s' calls)
