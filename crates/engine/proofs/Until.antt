-- A property of states that each byte fed keeps is kept by bytes fed up to a frame's end. The parsers cite it.
use mathlib.Core.List.{List, [], ◌∷◌}
use mathlib.Core.Option.{Option, none, some}
use Prim.Native.Nat.{ℕ, suc}
use Rattle.wire.specs.Bytes.{Byte, Bytes}
use Rattle.framing.proofs.Framing.{Framing}
use Rattle.framing.proofs.Scanner.{step}
use Rattle.engine.specs.Engine.{Sliced, Engine}
use Rattle.engine.proofs.Lawful.{stop_if, feed_until, Decoding}

module _ (F : Framing) {S A K : Type 0} (D : Decoding A) (E : Engine S A K) (Valid : S → Type 0)
    (keeps : (s : S) (b : ℕ) → Valid s → Byte b → Valid (E.feed s b).0) where
  stop_invariant : (o : Option (List ℕ)) (x y : Sliced S A) → Valid x.state → Valid y.state
      → Valid (stop_if o x y).state
  stop_invariant none x y p q = q
  stop_invariant (some f) x y p q = p

  pub until_invariant : (s : S) (bs : List ℕ) → Valid s → Bytes bs → Valid (feed_until F D E s bs).state
  until_invariant s [] ok h = ok
  until_invariant s (b ∷ bs) ok h =
      let one = E.feed s b in
      let kept = keeps s b ok h.0 in
      let more = feed_until F D E one.0 bs in
      stop_invariant (step F (E.pending s) b).ended (record { state = one.0; told = 1; answer = one.1 })
      (record { state = more.state; told = suc more.told; answer = more.answer })
      kept (until_invariant one.0 bs kept h.1)
