-- A slice call that first resets a state out of range (`still`). If the reset changes neither what a feed does nor what
-- is pending, a slice that is not empty does what its bytes do from the state itself.
use mathlib.Core.Path.{◌≡◌, ap, ◌∙◌}
use mathlib.Core.List.{List, [], ◌∷◌}
use Prim.Native.Nat.{ℕ}
use Rattle.wire.specs.Bytes.{Bytes}
use Rattle.framing.proofs.Framing.{Framing}
use Rattle.engine.specs.Engine.{Sliced, Engine}
use Rattle.engine.proofs.Lawful.{feed_until, Decoding}

module _ (F : Framing) {S A K : Type 0} (D : Decoding A) (E : Engine S A K) (Valid : S → Type 0) (still : S → S)
    (same-feed : (s : S) (b : ℕ) → E.feed (still s) b ≡ E.feed s b)
    (same-pending : (s : S) → E.pending (still s) ≡ E.pending s)
    (slice_still : (s : S) (bs : List ℕ) → Valid s → Bytes bs → E.slice s bs ≡ feed_until F D E (still s) bs) where
  pub slice_until : (s : S) (b : ℕ) (bs : List ℕ) → Valid s → Bytes (b ∷ bs)
      → E.slice s (b ∷ bs) ≡ feed_until F D E s (b ∷ bs)
  slice_until s b bs v h = slice_still s (b ∷ bs) v h ∙ rw (same-feed s b, same-pending s)

  -- So does every slice in what `get` reads of the result, if the empty slice does.
  pub same_until : {X : Type 0} (get : Sliced S A → X) (s : S) → Valid s
      → get (feed_until F D E (still s) []) ≡ get (feed_until F D E s []) → (bs : List ℕ) → Bytes bs
      → get (E.slice s bs) ≡ get (feed_until F D E s bs)
  same_until get s v e [] h = ap get (slice_still s [] v h) ∙ e
  same_until get s v e (b ∷ bs) h = ap get (slice_until s b bs v h)
