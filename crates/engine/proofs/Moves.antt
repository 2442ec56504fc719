-- Each call on a lawful engine is right by itself: a byte fed, and a slice.
use mathlib.Core.Path.{◌≡◌, refl, sym, ◌∙◌, ap}
use mathlib.Core.List.{List, [], ◌∷◌, ◌++◌}
use mathlib.Core.Option.{Option, none, some}
use Prim.Native.Nat.{ℕ, suc, ◌+◌, min}
use native.Mathlib.Omega.{arith}
use lib.ListN.{length, take}
use Rattle.wire.specs.Bytes.{Byte, Bytes}
use Rattle.framing.proofs.Framing.{Framing}
use Rattle.framing.proofs.Counting.{Counting, total}
use Rattle.framing.proofs.Scanner.{step, closed, rest}
use Rattle.framing.proofs.Division.{sum-append}
use Rattle.framing.proofs.Scanned.{from}
use Rattle.engine.specs.Engine.{Sliced, Engine}
use Rattle.engine.specs.Calls.{Did, fed, sliced, taken}
use Rattle.engine.specs.Fulfilled.{delivery, Told, to_end}
use Rattle.engine.proofs.Lawful.{stop_if, feed_until, Lawful, Decoding}
use Rattle.engine.proofs.OneByte.{Answering, no_byte, RightAfter, answered_byte, answered_more, told_more}
use Rattle.engine.proofs.OneByte.{told_here}
use Rattle.engine.proofs.Deliveries.{if_delivered, answers_of, none_delivered, quiet_more, byte_delivers}

-- A call that did d, with p pending, is right whatever follows.
pub record DidRight (F : Framing) {A : Type 0} (D : Decoding A) (p : List ℕ) (d : Did A) : Type 0 where
  pub right : (v : List ℕ) → RightAfter F D p [] (taken d ++ v) d
  pub delivered : delivery D.delivers d ≡ answers_of D (closed F p (taken d))

module _ (F : Framing) {S A K : Type 0} (D : Decoding A) (C : Counting K) (E : Engine S A K)
    {Valid : S → Type 0} (L : Lawful F D C E Valid) where
  -- The bytes t lead from the state s to s'.
  pub record Moves (s : S) (t : List ℕ) (s' : S) : Type 0 where
    pub valid : Valid s'
    pub pending : E.pending s' ≡ rest F (E.pending s) t
    pub counter : (k : K)
        → E.counter k s' ≡ min (E.counter k s + total C k (closed F (E.pending s) t)) E.max

  moves_none : (s : S) → Valid s → Moves s [] s
  moves_none s ok = record { valid = ok; pending = refl; counter = λ k. omega (arith, L.capped s ok k) }

  moves_more : (s : S) (b : ℕ) (t : List ℕ) (s' : S) → Valid s → Byte b
      → Moves (E.feed s b).0 t s' → Moves s (b ∷ t) s'
  moves_more s b t s' ok h m = record {
    valid = m.valid;
    pending = m.pending ∙ ap (λ (q : List ℕ). rest F q t) (L.feed_pending s b ok h);
    counter = λ k. omega (
      arith,
      rw (L.feed_pending s b ok h) at (m.counter k),
      L.feed_counter s b ok h k,
      sum-append (C.adds k) (step F (E.pending s) b).closed (closed F (step F (E.pending s) b).pending t),
    );
  }

  pub moves_byte : (s : S) (b : ℕ) → Valid s → Byte b → Moves s (b ∷ []) (E.feed s b).0
  moves_byte s b ok h = moves_more s b [] (E.feed s b).0 ok h (moves_none (E.feed s b).0 (L.feed_valid s b ok h))

  -- A byte fed is right.
  pub feed_right : (s : S) (b : ℕ) → Valid s → Byte b → DidRight F D (E.pending s) (fed b (E.feed s b).1)
  feed_right s b ok h = record {
    right = λ v. answered_byte F D (E.pending s) b v (E.feed s b).1 (L.feed_answer s b ok h);
    delivered = byte_delivers D F (E.pending s) b (E.feed s b).1 (L.feed_answer s b ok h);
  }

  -- The result r of a slice call with the bytes bs is right.
  pub record SliceRight (s : S) (bs : List ℕ) (r : Sliced S A) : Type 0 where
    pub moves : Moves s (take r.told bs) r.state
    pub answered : (v : List ℕ) → Answering D (from F (E.pending s) (take r.told bs ++ v))
        (length (E.pending s) + 0) (take r.told bs) r.answer
    pub counts : Told (from F (E.pending s) bs) (length (E.pending s) + 0) (length bs) r.told
    pub delivered : if_delivered D r.answer ≡ answers_of D (closed F (E.pending s) (take r.told bs))

  module _ (s : S) (b : ℕ) (bs : List ℕ) (ok : Valid s) (h : Byte b) where
    -- The result if b ends a frame; and if it does not and the rest of the slice gives r.
    abbrev stops : Sliced S A
    stops = record { state = (E.feed s b).0; told = 1; answer = (E.feed s b).1 }

    abbrev goes : Sliced S A → Sliced S A
    goes r = record { state = r.state; told = suc r.told; answer = r.answer }

    slice_stops : (f : List ℕ) → (step F (E.pending s) b).ended ≡ some f → SliceRight s (b ∷ bs) stops
    slice_stops f q = record {
      moves = moves_byte s b ok h;
      answered = (feed_right s b ok h).right;
      counts = told_here F (E.pending s) b bs f q;
      delivered = (feed_right s b ok h).delivered;
    }

    slice_goes : (r : Sliced S A) → SliceRight (E.feed s b).0 bs r
        → (step F (E.pending s) b).ended ≡ none → SliceRight s (b ∷ bs) (goes r)
    slice_goes r x q =
        let e = L.feed_pending s b ok h in
        let t = take r.told bs in
        record {
          moves = moves_more s b t r.state ok h x.moves;
          answered = λ v. answered_more F D (E.pending s) b t v r.answer q (rw e at (x.answered v));
          counts = told_more F (E.pending s) b bs q (length bs) r.told (rw e at x.counts);
          delivered = (rw e at x.delivered) ∙ sym (quiet_more D F (E.pending s) b t q);
        }

    slice_more : (r : Sliced S A) → SliceRight (E.feed s b).0 bs r
        → SliceRight s (b ∷ bs) (stop_if (step F (E.pending s) b).ended stops (goes r))
    slice_more r x = go (step F (E.pending s) b).ended refl
      where
        go : (o : Option (List ℕ)) → (step F (E.pending s) b).ended ≡ o
            → SliceRight s (b ∷ bs) (stop_if o stops (goes r))
        go none q = slice_goes r x q
        go (some f) q = slice_stops f q

  until_right : (s : S) (bs : List ℕ) → Valid s → Bytes bs → SliceRight s bs (feed_until F D E s bs)
  until_right s [] ok h = record {
    moves = moves_none s ok;
    answered = λ v. no_byte refl refl;
    counts = to_end refl (λ j g h l y. omega arith);
    delivered = none_delivered D;
  }
  until_right s (b ∷ bs) ok h = slice_more s b bs ok h.0 (feed_until F D E (E.feed s b).0 bs)
      (until_right (E.feed s b).0 bs (L.feed_valid s b ok h.0) h.1)

  sliced_right : (s : S) (bs : List ℕ) → Valid s → Bytes bs → SliceRight s bs (E.slice s bs)
  sliced_right s bs ok h =
      let r = until_right s bs ok h in
      record {
        moves = rw (L.slice_told s bs ok h) (record {
          valid = L.slice_valid s bs ok h;
          pending = L.slice_pending s bs ok h ∙ r.moves.pending;
          counter = λ k. L.slice_counter s bs ok h k ∙ r.moves.counter k;
        });
        answered = rw (L.slice_told s bs ok h, L.slice_answer s bs ok h) r.answered;
        counts = rw (L.slice_told s bs ok h) r.counts;
        delivered = rw (L.slice_told s bs ok h, L.slice_answer s bs ok h) r.delivered;
      }

  pub slice_moves : (s : S) (bs : List ℕ) → Valid s → Bytes bs
      → Moves s (take (E.slice s bs).told bs) (E.slice s bs).state
  slice_moves s bs ok h = (sliced_right s bs ok h).moves

  pub slice_right : (s : S) (bs : List ℕ) → Valid s → Bytes bs
      → DidRight F D (E.pending s) (sliced bs (E.slice s bs).told (E.slice s bs).answer)
  slice_right s bs ok h =
      let r = sliced_right s bs ok h in record { right = λ v. (r.answered v, r.counts); delivered = r.delivered }
