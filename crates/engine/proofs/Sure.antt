-- The division leaves no choice: at most one frame ends at a place, so only one answer and one count are right.
use mathlib.Core.Path.{◌≡◌, refl, sym, ◌∙◌}
use mathlib.Core.Logic.{◌↔◌}
use mathlib.Core.Bool.{Bool, true, false}
use mathlib.Core.List.{List, []}
use Prim.Native.Nat.{ℕ, ◌<◌}
use native.Mathlib.Decide.{dec_lt}
use native.Mathlib.Omega.{arith}
use Rattle.framing.proofs.Framing.{Framing, Divides}
use Rattle.framing.specs.Piece.{Piece}
use Rattle.framing.specs.Division.{is_empty, is_stray, is_broken, is_whole, is_unfinished, EndsAt}
use Rattle.framing.proofs.Ends.{Ends, here, later, ends-nil, ends_in}
use Rattle.framing.proofs.Scanned.{scanner_complete}
use Rattle.framing.proofs.Events.{late}
use Rattle.engine.specs.Fulfilled.{Protocol, LastEnds, Answered, Told, to_frame, to_end}

module _ (F : Framing) where
  -- No frame of a division ends at place 0.
  after_start : {s : List ℕ} {ps : List Piece} {n : ℕ} {f : List ℕ} → Divides F s ps → Ends ps n f → 0 < n
  after_start {s} {ps} {n} {f} d x = late F [] s n f (rw (scanner_complete F d) at x)

  same_frame : {s : List ℕ} {ps : List Piece} {m n : ℕ} {f g : List ℕ} → Divides F s ps → m ≡ n
      → Ends ps m f → Ends ps n g → f ≡ g
  same_frame is_empty q x y = absurd (ends-nil x)
  same_frame (is_stray b d) q (later x e) (later y e') = same_frame d (omega arith) x y
  same_frame (is_broken ne o w b d) q (later x e) (later y e') = same_frame d (omega arith) x y
  same_frame (is_whole w d) q (here z e) (here z' e') = sym z ∙ z'
  same_frame (is_whole w d) q (here z e) (later y e') = absurd (omega (arith, after_start d y))
  same_frame (is_whole w d) q (later x e) (here z' e') = absurd (omega (arith, after_start d x))
  same_frame (is_whole w d) q (later x e) (later y e') = same_frame d (omega arith) x y
  same_frame (is_unfinished ne o w) q (later x e) y = absurd (ends-nil x)

  pub frame_unique : {s : List ℕ} {ps : List Piece} {n : ℕ} {f g : List ℕ} → Divides F s ps
      → EndsAt ps n f → EndsAt ps n g → f ≡ g
  frame_unique d x y = same_frame d refl (ends_in x) (ends_in y)

pub clash : (b : Bool) → b ≡ true → b ≡ false → ⊥
clash b p q = let z : ◌≡◌ {A = ℕ} 0 1 = cc in omega arith

-- If the same frames end with the last byte taken, the right answers are equal.
pub answer_unique : {A K : Type 0} (P : Protocol A K) {ps qs : List Piece} {u t : List ℕ} {a b : A}
    → ((f : List ℕ) → LastEnds ps u t f ↔ LastEnds qs u t f) → Answered P ps u t a → Answered P qs u t b → a ≡ b
answer_unique P {a = a} {b} same x y = go (P.delivers a) (P.delivers b) refl refl
  where
    go : (c d : Bool) → P.delivers a ≡ c → P.delivers b ≡ d → a ≡ b
    go true d p q =
        let f = x.when.0 p in
        x.which f.0 f.1 f.2 ∙ sym (y.which f.0 ((same f.0).0 f.1) f.2)
    go false true p q =
        let f = y.when.0 q in
        absurd (clash (P.delivers a) (x.when.1 (f.0, (same f.0).1 f.1, f.2)) p)
    go false false p q = x.else p ∙ sym (y.else q)

pub told_unique : {ps : List Piece} {n m j k : ℕ} → Told ps n m j → Told ps n m k → j ≡ k
told_unique {ps} {n} {m} {j} {k} (to_frame f h l x none_before) (to_frame g h' l' y none-before') =
    go (dec_lt j k) (dec_lt k j)
  where
    go : Dec (j < k) → Dec (k < j) → j ≡ k
    go (yes p) o = absurd (none-before' j f h p x)
    go (no p) (yes o) = absurd (none_before k g h' o y)
    go (no p) (no o) = omega arith
told_unique {j = j} (to_frame f h l x none_before) (to_end e none-there) = absurd (none-there j f h l x)
told_unique {k = k} (to_end e none-there) (to_frame g h' l' y none_before) = absurd (none-there k g h' l' y)
told_unique (to_end e none-there) (to_end e' none-there') = e ∙ sym e'
