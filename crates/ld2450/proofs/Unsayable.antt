-- The writer's test of targets fails exactly in request 6's two causes; so these are the causes of its 6.
use mathlib.Core.Path.{◌≡◌, refl, sym, ap, ◌∙◌}
use mathlib.Core.Logic.{◌≢◌, ◌↔◌, ◌⊎◌, inl, inr, ⊎_elim}
use mathlib.Core.List.{List, [], ◌∷◌}
use mathlib.Core.Bool.{Bool, true, false, ◌&&◌, false≢true}
use Prim.Native.Nat.{ℕ, suc, ◌<◌}
use native.Mathlib.Omega.{arith}
use lib.Dec.{eqb}
use lib.IntN.{ℤ, pos, negsuc, neg_ℤ}
use lib.ListN.{length}
use lib.Signed.{mag}
use borrow.Author.Tests.{leb-false, eq-eqb, ne_eqb}
use Rattle.wire.specs.Bytes.{Every}
use Rattle.writer.specs.Written.{WriteCauses}
use Rattle.writer.specs.RoundTrip.{writes, leaves, RoundTrip}
use Rattle.std.specs.declared.result.Result.{Result}
use Rattle.refusal.specs.declared.Error.{Error}
use Rattle.writer.proofs.RoundTrip.{ShownRound}
use Rattle.ld2450.specs.Signed.{sayable}
use Rattle.ld2450.specs.Bytes.{is_zero, writable, all_writable, targets_frame, Unsayable, lowest_x, lowest_y}
use Rattle.ld2450.specs.Bytes.{lowest_speed, left_x, left_y, left_speed, left_resolution, SomeUnsayable, here}
use Rattle.ld2450.specs.Bytes.{later}
use Rattle.ld2450.specs.RoundTrip.{target_frames}
use Rattle.ld2450.specs.Claims.{WrittenExample}
use Rattle.ld2450.specs.declared.targets.Target.{Target}
use Rattle.ld2450.proofs.Printed.{written_example}
use Rattle.ld2450.proofs.Typed.{TypedTarget, TypedTargets}

-- A conjunction fails only if one of its tests does, and always if the second does.
either : (a b : Bool) → a && b ≡ false → (a ≡ false) ⊎ (b ≡ false)
either true b e = inr e
either false b e = inl refl

second : (a b : Bool) → b ≡ false → a && b ≡ false
second true b e = e
second false b e = refl

-- -32,768 is the only sixteen-bit number that two bytes cannot say.
lowest : (z : ℤ) → mag z < 32768 → sayable z ≡ false → z ≡ neg_ℤ (pos 32768)
lowest (pos n) h e = absurd (false≢true (sym e))
lowest (negsuc n) h e =
    let l = leb-false (suc n) 32767 e in
    let m : n ≡ 32767 = omega arith in
    ap negsuc m

unsaid : (z : ℤ) → z ≡ neg_ℤ (pos 32768) → sayable z ≡ false
unsaid z e = ap sayable e

not-zero : (z : ℤ) → is_zero z ≡ false → z ≢ pos 0
not-zero z e q = false≢true (sym e ∙ ap is_zero q)

tested_not : (z : ℤ) → z ≢ pos 0 → is_zero z ≡ false
tested_not (pos n) h = ne_eqb n 0 (λ q. h (ap pos q))
tested_not (negsuc n) h = refl

some_left : (n : ℕ) → eqb n 0 ≡ false → n ≢ 0
some_left n e q = false≢true (sym e ∙ eq-eqb n 0 q)

module _ (t : Target) where
  caused_by : TypedTarget t → (p : Bool) → t.present ≡ p → writable t ≡ false → Unsayable t
  unfolding writable
  caused_by h true q e =
      ⊎_elim (λ a. lowest_x t q (lowest t.x h.x a))
      (λ a. ⊎_elim (λ b. lowest_y t q (lowest t.y h.y b))
      (λ b. lowest_speed t q (lowest t.speed h.speed b))
      (either (sayable t.y) (sayable t.speed) a))
      (either (sayable t.x) (sayable t.y && sayable t.speed) (rw q at e))
  caused_by h false q e =
      ⊎_elim (λ a. left_x t q (not-zero t.x a))
      (λ a. ⊎_elim (λ b. left_y t q (not-zero t.y b))
      (λ b. ⊎_elim (λ c. left_speed t q (not-zero t.speed c))
      (λ c. left_resolution t q (some_left t.resolution c))
      (either (is_zero t.speed) (eqb t.resolution 0) b))
      (either (is_zero t.y) (is_zero t.speed && eqb t.resolution 0) a))
      (either (is_zero t.x) (is_zero t.y && (is_zero t.speed && eqb t.resolution 0)) (rw q at e))

  unwritable : Unsayable t → writable t ≡ false
  unfolding writable
  unwritable (lowest_x _ q e) = rw (q, unsaid t.x e)
  unwritable (lowest_y _ q e) = rw q (second (sayable t.x) _ (rw (unsaid t.y e)))
  unwritable (lowest_speed _ q e) =
      rw q (second (sayable t.x) _ (second (sayable t.y) _ (unsaid t.speed e)))
  unwritable (left_x _ q e) = rw (q, tested_not t.x e)
  unwritable (left_y _ q e) = rw q (second (is_zero t.x) _ (rw (tested_not t.y e)))
  unwritable (left_speed _ q e) =
      rw q (second (is_zero t.x) _ (second (is_zero t.y) _ (rw (tested_not t.speed e))))
  unwritable (left_resolution _ q e) =
      rw q (second (is_zero t.x) _
      (second (is_zero t.y) _ (second (is_zero t.speed) _ (ne_eqb t.resolution 0 e))))

-- So of several targets: the test fails exactly if one of them has a cause.
some_caused : (ts : List Target) → Every TypedTarget ts → all_writable ts ≡ false → SomeUnsayable ts
some_caused [] h e = absurd (false≢true (sym e))
some_caused (t ∷ ts) h e =
    ⊎_elim (λ a. here t ts (caused_by t h.0 t.present refl a)) (λ a. later t ts (some_caused ts h.1 a))
    (either (writable t) (all_writable ts) e)

some_unwritable : (ts : List Target) → SomeUnsayable ts → all_writable ts ≡ false
some_unwritable ts (here t us h) = rw (unwritable t h)
some_unwritable ts (later t us h) = second (writable t) (all_writable us) (some_unwritable us h)

pub unsayable : (ts : List Target) → Every TypedTarget ts → all_writable ts ≡ false ↔ SomeUnsayable ts
unsayable ts h = (some_caused ts h, some_unwritable ts)

-- A cause of a writer's answer can be replaced by an equivalent one.
reworded : {k n : ℕ} {A B : Type 0} {f : List ℕ} {r : Result ℕ Error} → A ↔ B → WriteCauses k A f n r
    → WriteCauses k B f n r
reworded h w = record {
  accepted = (
    λ z. (λ b. (w.accepted.0 z).0 (h.1 b), (w.accepted.0 z).1),
    λ p. w.accepted.1 (λ a. p.0 (h.0 a), p.1),
  );
  refused = (λ z. h.0 (w.refused.0 z), λ b. w.refused.1 (h.1 b));
  short = (λ z. (λ b. (w.short.0 z).0 (h.1 b), (w.short.0 z).1), λ p. w.short.1 (λ a. p.0 (h.0 a), p.1));
  returned = w.returned;
}

-- What the writer has to show.
pub sends : (ts : List Target) → TypedTargets ts → (out left : List ℕ) {r : Result ℕ Error}
    → ShownRound target_frames ts (all_writable ts) out r left
    → record {
      examples : WrittenExample;
      told : r ≡ writes target_frames ts out;
      left : left ≡ leaves target_frames ts out;
      causes : WriteCauses 6 (SomeUnsayable ts) (targets_frame ts) (length out) r;
      round : RoundTrip target_frames ts;
    }
sends ts h out left s = record {
  examples = written_example;
  told = s.told;
  left = s.left;
  causes = reworded (unsayable ts h.each) s.causes;
  round = s.round;
}
