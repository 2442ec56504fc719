-- Calls on a parser, what they did, and the stretches between resets. A is the type of answers.
--   Call             a byte fed, a slice fed, or a reset
--   ByteCall c       the call c passes bytes alone
--   Goes c           the call c is no reset
--   feeds t          the bytes of the string t, fed one by one
--   Did A            what a call did: the byte and its answer; the slice, its count and its answer; a reset
--   Took d           what was done is no reset
--   taken d          the bytes that a call took: of a slice, as many as its count
--   taken_by ds       the bytes that a list of calls took
--   stretches p ds   01's stretches, as strings
--   so_far p ds       the last of them
--   up_to_reset ds     the bytes that the calls took before the first reset among them
use Rattle.std.specs.Prelude.{List, [], ◌∷◌, ◌++◌, map, ℕ, take}
use Rattle.wire.specs.Bytes.{Byte, Bytes}

pub data Call : Type 0 where
  feed : (b : ℕ) → Call
  slice : (bs : List ℕ) → Call
  reset : Call

abbrev pub ByteCall : Call → Type 0
ByteCall (feed b) = Byte b
ByteCall (slice bs) = Bytes bs
ByteCall reset = Unit {0}

abbrev pub Goes : Call → Type 0
Goes (feed b) = Unit {0}
Goes (slice bs) = Unit {0}
Goes reset = ⊥

abbrev pub feeds : List ℕ → List Call
feeds t = map feed t

pub data Did (A : Type 0) : Type 0 where
  fed : (b : ℕ) (answer : A) → Did A
  sliced : (bs : List ℕ) (told : ℕ) (answer : A) → Did A
  cleared : Did A

module _ {A : Type 0} where
  abbrev pub Took : Did A → Type 0
  Took (fed b a) = Unit {0}
  Took (sliced bs k a) = Unit {0}
  Took cleared = ⊥

  abbrev pub taken : Did A → List ℕ
  taken (fed b a) = b ∷ []
  taken (sliced bs k a) = take k bs
  taken cleared = []

  abbrev pub taken_by : List (Did A) → List ℕ
  taken_by [] = []
  taken_by (d ∷ ds) = taken d ++ taken_by ds

  -- The first stretch is p, which was pending before the first call, and what the calls took up to a reset. After each
  -- reset the next one begins empty.
  abbrev pub stretches : List ℕ → List (Did A) → List (List ℕ)
  stretches p [] = p ∷ []
  stretches p (fed b a ∷ ds) = stretches (p ++ (b ∷ [])) ds
  stretches p (sliced bs k a ∷ ds) = stretches (p ++ take k bs) ds
  stretches p (cleared ∷ ds) = p ∷ stretches [] ds

  -- The stretch so far, after the calls.
  abbrev pub so_far : List ℕ → List (Did A) → List ℕ
  so_far p [] = p
  so_far p (fed b a ∷ ds) = so_far (p ++ (b ∷ [])) ds
  so_far p (sliced bs k a ∷ ds) = so_far (p ++ take k bs) ds
  so_far p (cleared ∷ ds) = so_far [] ds

  abbrev pub up_to_reset : List (Did A) → List ℕ
  up_to_reset [] = []
  up_to_reset (fed b a ∷ ds) = b ∷ up_to_reset ds
  up_to_reset (sliced bs k a ∷ ds) = take k bs ++ up_to_reset ds
  up_to_reset (cleared ∷ ds) = []
