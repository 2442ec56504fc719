-- An empty slice takes no byte, and delivers nothing.
use mathlib.Core.Path.{◌≡◌, refl}
use mathlib.Core.List.{List, [], ◌∷◌, ◌++◌}
use mathlib.Core.Bool.{Bool, true, false}
use Prim.Native.Nat.{ℕ}
use native.Mathlib.Omega.{arith}
use lib.Seq.{take-nil}
use Rattle.framing.specs.Piece.{Piece}
use Rattle.engine.specs.Calls.{Call, Did, sliced}
use Rattle.engine.specs.Engine.{Engine, history}
use Rattle.engine.specs.Fulfilled.{Protocol, Answered, Told, to_frame, to_end, Fulfilled}

answered_nil : {A K : Type 0} (P : Protocol A K) {ps : List Piece} {u t : List ℕ} {a : A} → t ≡ []
    → Answered P ps u t a → a ≡ P.none
answered_nil P {a = a} z x = go (P.delivers a) refl
  where
    go : (b : Bool) → P.delivers a ≡ b → a ≡ P.none
    go true q = absurd ((x.when.0 q).1.0 z)
    go false q = x.else q

told_nil : {ps : List Piece} {n k : ℕ} → Told ps n 0 k → k ≡ 0
told_nil (to_frame f h l x y) = omega arith
told_nil (to_end e y) = e

pub empty_slice : {S A K : Type 0} (P : Protocol A K) (E : Engine S A K) (p : List ℕ) (s : S) (calls : List Call)
    → Fulfilled P E p s calls → (before : List (Did A)) (k : ℕ) (a : A) (after : List (Did A))
    → history E s calls ≡ before ++ (sliced [] k a ∷ after) → (k ≡ 0) × (a ≡ P.none)
empty_slice P E p s calls x before k a after e =
    let r = x.right before (sliced [] k a) after e in (told_nil r.1, answered_nil P (take-nil k) r.0)
