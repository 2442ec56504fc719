-- The claims about a lawful engine from a valid state, each by a law of this crate. Both parsers cite them.
--   Demand p s     demand 3: every list of calls that pass bytes fulfils it, from the state s, with p pending
--   Claimed s      the demand from s, with the string that s holds pending, and four consequences
--   FromNothing s  with nothing pending: the demand, what it determines, and that every byte is accounted for
use mathlib.Core.Path.{◌≡◌, refl, sym, ap, subst, ◌∙◌}
use mathlib.Core.List.{List, [], ◌∷◌, ◌++◌}
use Prim.Native.Nat.{ℕ, ◌+◌, ◌<◌, min}
use lib.ListN.{length}
use Rattle.wire.specs.Bytes.{Every}
use Rattle.framing.proofs.Framing.{Framing, Divides}
use Rattle.framing.proofs.Counting.{Counting}
use Rattle.framing.specs.Piece.{Piece}
use Rattle.framing.specs.Tally.{sum, lost, in_frames, passed}
use Rattle.engine.specs.Calls.{Call, ByteCall, Goes, Did, sliced, taken_by}
use Rattle.engine.specs.Engine.{Engine, history, final}
use Rattle.engine.specs.Fulfilled.{deliveries, Fulfilled, Same}
use Rattle.engine.proofs.Lawful.{Decoding, protocol_of, Lawful}
use Rattle.engine.proofs.Fulfilled.{fulfilled, final_valid}
use Rattle.engine.proofs.Accounts.{accounts, frames_delivered}
use Rattle.engine.proofs.Empty.{empty_slice}
use Rattle.engine.proofs.Same.{same}
use Rattle.engine.proofs.Resumed.{resumed}

module _ (F : Framing) {S A K : Type 0} (D : Decoding A) (C : Counting K) (E : Engine S A K) where
  abbrev pub Demand : List ℕ → S → Type 0
  Demand p s = (calls : List Call) → Every ByteCall calls → Fulfilled (protocol_of F D C) E p s calls

  -- An engine that fulfils the demand, with equal max and first counters, does what E does from s.
  abbrev pub Determines : List ℕ → S → Type 0
  Determines p s = (E' : Engine S A K) (s' : S) (calls : List Call) → Every ByteCall calls
      → Fulfilled (protocol_of F D C) E' p s' calls → E'.max ≡ E.max → ((k : K) → E'.counter k s' ≡ E.counter k s)
      → Same E' E s' s calls

  pub record Claimed (s : S) : Type 0 where
    pub demand : Demand (E.pending s) s
    pub determined : Determines (E.pending s) s
    pub counted : (k : K) → ((q : Piece) → C.adds k q ≡ passed D.decodes q) → (calls : List Call)
        → Every ByteCall calls → E.counter k (final E s calls)
        ≡ min (E.counter k s + length (deliveries D.delivers (history E s calls))) E.max
    pub empty : (calls : List Call) → Every ByteCall calls → (before after : List (Did A)) (k : ℕ) (a : A)
        → history E s calls ≡ before ++ (sliced [] k a ∷ after) → (k ≡ 0) × (a ≡ D.none)
    pub resumes : (calls more : List Call) → Every ByteCall calls → Every ByteCall more → (y : S)
        → Demand (E.pending y) y → E.pending y ≡ E.pending (final E s calls)
        → ((k : K) → E.counter k (final E s calls) ≡ E.counter k y)
        → history E s (calls ++ more) ≡ history E s calls ++ history E y more

  pub record FromNothing (s : S) : Type 0 where
    pub demand : Demand [] s
    pub determined : Determines [] s
    pub accounted : (k : K) → ((q : Piece) → C.adds k q ≡ lost q) → E.counter k s ≡ 0 → (calls : List Call)
        → Every ByteCall calls → Every Goes calls → E.counter k (final E s calls) < E.max
        → (ps : List Piece) → Divides F (taken_by (history E s calls)) ps → length (taken_by (history E s calls))
        ≡ E.counter k (final E s calls) + E.unfinished (final E s calls) + sum in_frames ps

  determined_by : {p : List ℕ} (s : S) → Demand p s → Determines p s
  determined_by {p} s d E' s' calls h x max start = same F D C E' E p s' s calls x (d calls h) max start

  accounted_by : (s : S) → Demand [] s → (k : K) → ((q : Piece) → C.adds k q ≡ lost q) → E.counter k s ≡ 0
      → (calls : List Call) → Every ByteCall calls → Every Goes calls → E.counter k (final E s calls) < E.max
      → (ps : List Piece) → Divides F (taken_by (history E s calls)) ps → length (taken_by (history E s calls))
      ≡ E.counter k (final E s calls) + E.unfinished (final E s calls) + sum in_frames ps
  accounted_by s d k e start calls h goes less ps q =
      let y = d calls h in
      accounts E (protocol_of F D C) k e [] s calls y goes start less
      ∙ ap (λ qs. E.counter k (final E s calls) + E.unfinished (final E s calls) + sum in_frames qs)
      (sym ((y.divide (taken_by (history E s calls))).only ps q))

  module _ {Valid : S → Type 0} (L : Lawful F D C E Valid) (s : S) (v : Valid s) where
    pub claimed : Claimed s
    claimed =
        let all : Demand (E.pending s) s = λ calls h. fulfilled F D C E L s v calls h in
        record {
          demand = all;
          determined = determined_by s all;
          counted = λ k e calls h.
              frames_delivered E (protocol_of F D C) k e (E.pending s) s calls (all calls h);
          empty = λ calls h before after k a e.
              empty_slice (protocol_of F D C) E (E.pending s) s calls (all calls h) before k a after e;
          resumes = λ calls more h g y d e st.
              let z = final E s calls in
              resumed F D C E E s y calls more (fulfilled F D C E L z (final_valid F D C E L s calls v h) more g)
              (d more g) refl e st;
        }

    pub from_nothing : E.pending s ≡ [] → FromNothing s
    from_nothing nothing =
        let all : Demand [] s = subst (λ (p : List ℕ). Demand p s) nothing claimed.demand in
        record { demand = all; determined = determined_by s all; accounted = accounted_by s all }
