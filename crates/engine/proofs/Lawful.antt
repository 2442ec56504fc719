-- What each single call on an engine must do so that every list of calls is right: what the scanner does.
--   Decoding A        the answer to a whole frame, and whether it delivers the frame, with three laws
--   protocol_of F D C  the protocol that a framing, a decoding and a counting make
--   answer_at D o      the answer at a byte; o is the frame that it ended, if any
--   feed_until         bytes fed one by one, up to and including the first that ends a whole frame
--   Lawful F D C E V  from every state with the property V, each call does what the scanner does, and keeps V
use mathlib.Core.Path.{◌≡◌}
use mathlib.Core.List.{List, [], ◌∷◌}
use mathlib.Core.Bool.{Bool, true, false}
use mathlib.Core.Option.{Option, none, some}
use Prim.Native.Nat.{ℕ, suc, ◌+◌, ◌≤◌, min}
use lib.ListN.{length}
use Rattle.wire.specs.Bytes.{Byte, Bytes}
use Rattle.framing.proofs.Framing.{Framing, Waits}
use Rattle.framing.proofs.Counting.{Counting, total}
use Rattle.framing.proofs.Scanner.{step}
use Rattle.engine.specs.Engine.{Sliced, Engine}
use Rattle.engine.specs.Fulfilled.{Protocol}

-- `none` is the answer "no frame". A frame that does not decode always gets it, and one that decodes never does.
pub record Decoding (A : Type 0) : Type 0 where
  pub none : A
  pub delivers : A → Bool
  pub decodes : List ℕ → Bool
  pub answer_of : List ℕ → A
  pub none_delivers : delivers none ≡ false
  pub decodes_delivers : (f : List ℕ) → decodes f ≡ true → delivers (answer_of f) ≡ true
  pub undecoded : (f : List ℕ) → decodes f ≡ false → answer_of f ≡ none

abbrev pub protocol_of : {A K : Type 0} → Framing → Decoding A → Counting K → Protocol A K
protocol_of F D C = record {
  Open = F.Open;
  Whole = F.Whole;
  decodes = D.decodes;
  answer_of = D.answer_of;
  delivers = D.delivers;
  none = D.none;
  adds = C.adds;
}

abbrev pub answer_at : {A : Type 0} → Decoding A → Option (List ℕ) → A
answer_at D none = D.none
answer_at D (some f) = D.answer_of f

-- The first outcome if a frame ended, else the second.
abbrev pub stop_if : {R : Type 0} → Option (List ℕ) → R → R → R
stop_if (some f) stop on = stop
stop_if none stop on = on

module _ (F : Framing) {S A K : Type 0} (D : Decoding A) (E : Engine S A K) where
  abbrev pub feed_until : S → List ℕ → Sliced S A
  feed_until s [] = record { state = s; told = 0; answer = D.none }
  feed_until s (b ∷ bs) =
      let more : Sliced S A = feed_until (E.feed s b).0 bs in
      stop_if (step F (E.pending s) b).ended
      (record { state = (E.feed s b).0; told = 1; answer = (E.feed s b).1 })
      (record { state = more.state; told = suc more.told; answer = more.answer })

-- An engine may be lawful for several framings, for each from other states: `Valid` says from which. For both parsers
-- it holds of every state that the types allow.
pub record Lawful (F : Framing) {S A K : Type 0} (D : Decoding A) (C : Counting K) (E : Engine S A K)
    (Valid : S → Type 0) : Type 0 where
  -- a byte fed: the pending string, the answer and the counters
  pub feed_valid : (s : S) (b : ℕ) → Valid s → Byte b → Valid (E.feed s b).0
  pub feed_pending : (s : S) (b : ℕ) → Valid s → Byte b
      → E.pending (E.feed s b).0 ≡ (step F (E.pending s) b).pending
  pub feed_answer : (s : S) (b : ℕ) → Valid s → Byte b
      → (E.feed s b).1 ≡ answer_at D (step F (E.pending s) b).ended
  pub feed_counter : (s : S) (b : ℕ) → Valid s → Byte b → (k : K)
      → E.counter k (E.feed s b).0 ≡ min (E.counter k s + total C k (step F (E.pending s) b).closed) E.max
  -- a slice: the same as bytes fed one by one up to a frame's end
  pub slice_valid : (s : S) (bs : List ℕ) → Valid s → Bytes bs → Valid (E.slice s bs).state
  pub slice_pending : (s : S) (bs : List ℕ) → Valid s → Bytes bs
      → E.pending (E.slice s bs).state ≡ E.pending (feed_until F D E s bs).state
  pub slice_told : (s : S) (bs : List ℕ) → Valid s → Bytes bs → (E.slice s bs).told ≡ (feed_until F D E s bs).told
  pub slice_answer : (s : S) (bs : List ℕ) → Valid s → Bytes bs
      → (E.slice s bs).answer ≡ (feed_until F D E s bs).answer
  pub slice_counter : (s : S) (bs : List ℕ) → Valid s → Bytes bs → (k : K)
      → E.counter k (E.slice s bs).state ≡ E.counter k (feed_until F D E s bs).state
  -- a reset forgets the pending string and keeps the counters
  pub reset_valid : (s : S) → Valid s → Valid (E.reset s)
  pub reset_pending : (s : S) → Valid s → E.pending (E.reset s) ≡ []
  pub reset_counter : (s : S) → Valid s → (k : K) → E.counter k (E.reset s) ≡ E.counter k s
  -- the pending string is open and not whole, and `unfinished` is its length
  pub pending_waits : (s : S) → Valid s → Waits F (E.pending s)
  pub pending_length : (s : S) → Valid s → E.unfinished s ≡ length (E.pending s)
  -- no counter exceeds max
  pub capped : (s : S) → Valid s → (k : K) → E.counter k s ≤ E.max
