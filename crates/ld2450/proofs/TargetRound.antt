-- A target and its eight bytes: what is written is read back, and bytes as the writer writes them are written back.
use mathlib.Core.Path.{◌≡◌, refl, sym, ap, ◌∙◌}
use mathlib.Core.Logic.{◌≢◌, inl, inr}
use mathlib.Core.List.{List, [], ◌∷◌, ◌++◌}
use mathlib.Core.Bool.{Bool, true, false, ◌&&◌, and-eq-true_iff}
use Prim.Native.Nat.{ℕ, ◌+◌, ◌≤◌, ◌<◌}
use native.Mathlib.Omega.{arith}
use lib.Dec.{eqb}
use lib.IntN.{ℤ, pos, negsuc}
use lib.ListN.{length, take, drop, replicate, length-take, length-drop, drop_of_length-le}
use borrow.Author.Tests.{eqb-true}
use Rattle.wire.specs.Bytes.{Bytes}
use Rattle.wire.specs.Equal.{same_bytes}
use Rattle.wire.specs.Number.{little, le_bytes}
use Rattle.wire.proofs.Bytes.{bytes_append, bytes_take, bytes_drop, bytes_le_bytes, le_bytes_again, little_two}
use Rattle.wire.proofs.Equality.{same_complete, same_differs}
use Rattle.ld2450.specs.Signed.{signed_of, raw_of}
use Rattle.ld2450.specs.Target.{absent, field_at, present_of, target_of}
use Rattle.ld2450.specs.Bytes.{is_zero, present_bytes, target_bytes, writable}
use Rattle.ld2450.specs.RoundTrip.{AsWritten}
use Rattle.ld2450.specs.declared.targets.Target.{Target}
use Rattle.ld2450.proofs.Signs.{Raw, raw, said_sayable, said_raw}
use Rattle.ld2450.proofs.TargetBytes.{writable_said, target_absent}
use Rattle.ld2450.proofs.Typed.{TypedTarget}

-- Eight bytes are read as no target if all are zero, else as a present one.
module _ (b : List ℕ) where
  none_read : b ≡ replicate 8 0 → target_of b ≡ absent
  none_read e = sym (target_absent b (same_complete b (replicate 8 0) e))

  some_read : (b ≡ replicate 8 0 → ⊥) → target_of b ≡ present_of b
  unfolding target_of
  some_read h = rw (same_differs b (replicate 8 0) h)

  -- If the first field is not 0, they are not all zero.
  field_some : field_at b 0 ≢ 0 → b ≡ replicate 8 0 → ⊥
  field_some h e = h (ap (λ s. field_at s 0) e)

-- A target is determined by its fields.
target_is : (t : Target) {p : Bool} {x y s : ℤ} {r : ℕ} → p ≡ t.present → x ≡ t.x → y ≡ t.y → s ≡ t.speed
    → r ≡ t.resolution
    → ◌≡◌ {A = Target} (record { present = p; x = x; y = y; speed = s; resolution = r }) t
target_is t hp hx hy hs hr = rw (hp, hx, hy, hs, hr)

zero_is : (z : ℤ) → is_zero z ≡ true → pos 0 ≡ z
zero_is (pos n) e = ap pos (sym (eqb-true n 0 e))
zero_is (negsuc n) e = let h : false ≡ true = e in let z : ◌≡◌ {A = ℕ} 0 1 = cc in absurd (omega arith)

-- An absent target that can be written has every field 0.
module _ (t : Target) (gone : t.present ≡ false) where
  absent_is : writable t ≡ true → absent ≡ t
  unfolding writable
  absent_is e =
      let h = (and-eq-true_iff (is_zero t.x) (is_zero t.y && (is_zero t.speed && eqb t.resolution 0))).0
      (rw gone at e) in
      let k = (and-eq-true_iff (is_zero t.y) (is_zero t.speed && eqb t.resolution 0)).0 h.1 in
      let l = (and-eq-true_iff (is_zero t.speed) (eqb t.resolution 0)).0 k.1 in
      target_is t (sym gone) (zero_is t.x h.0) (zero_is t.y k.0) (zero_is t.speed l.0)
      (sym (eqb-true t.resolution 0 l.1))

  absent_bytes : target_bytes t ≡ replicate 8 0
  unfolding target_bytes
  absent_bytes = rw gone

-- The bytes of a present target that can be written.
module _ (t : Target) (there : t.present ≡ true) where
  present_bytes_lem : target_bytes t ≡ present_bytes t
  unfolding target_bytes
  present_bytes_lem = rw there

  module _ (h : TypedTarget t) (e : writable t ≡ true) where
    raw_x : Raw t.x
    raw_x = raw t.x h.x (writable_said t there e).x

    raw_y : Raw t.y
    raw_y = raw t.y h.y (writable_said t there e).y

    raw_speed : Raw t.speed
    raw_speed = raw t.speed h.speed (writable_said t there e).speed

    present_fields : (field_at (present_bytes t) 0 ≢ 0) × (field_at (present_bytes t) 2 ≢ 0)
        × (field_at (present_bytes t) 4 ≢ 0)
    present_fields = (
      λ z. raw_x.some (sym (little_two (raw_of t.x) raw_x.wide) ∙ z),
      λ z. raw_y.some (sym (little_two (raw_of t.y) raw_y.wide) ∙ z),
      λ z. raw_speed.some (sym (little_two (raw_of t.speed) raw_speed.wide) ∙ z),
    )

    present_read : present_of (present_bytes t) ≡ t
    present_read =
        target_is t (sym there) (ap signed_of (little_two (raw_of t.x) raw_x.wide) ∙ raw_x.again)
        (ap signed_of (little_two (raw_of t.y) raw_y.wide) ∙ raw_y.again)
        (ap signed_of (little_two (raw_of t.speed) raw_speed.wide) ∙ raw_speed.again)
        (little_two t.resolution h.resolution)

-- A string of eight bytes, as the bytes of a target are.
pub record Eight (b : List ℕ) : Type 0 where
  pub size : length b ≡ 8
  pub bytes : Bytes b

two_bytes : (n : ℕ) (s : List ℕ) → Bytes s → Bytes (le_bytes 2 n ++ s)
two_bytes n s = bytes_append (le_bytes 2 n) s (bytes_le_bytes 2 n)

eight_present : (t : Target) → Eight (present_bytes t)
eight_present t =
    let d = le_bytes 2 t.resolution in
    let c = le_bytes 2 (raw_of t.speed) ++ d in
    let b = le_bytes 2 (raw_of t.y) ++ c in
    let last = two_bytes (raw_of t.speed) d (bytes_le_bytes 2 t.resolution) in
    record { size = refl; bytes = two_bytes (raw_of t.x) b (two_bytes (raw_of t.y) c last) }

module _ (t : Target) where
  eight_by : (p : Bool) → t.present ≡ p → Eight (target_bytes t)
  eight_by true e = rw (present_bytes_lem t e) (eight_present t)
  eight_by false e = rw (absent_bytes t e) (record { size = refl; bytes = bytes_le_bytes 8 0 })

  pub target_eight : Eight (target_bytes t)
  target_eight = eight_by t.present refl

  -- A target that can be written is read back from its bytes, and these are `AsWritten`.
  module _ (h : TypedTarget t) (e : writable t ≡ true) where
    read_by : (p : Bool) → t.present ≡ p → target_of (target_bytes t) ≡ t
    read_by true there =
        let some = field_some (present_bytes t) (present_fields t there h e).0 in
        rw (present_bytes_lem t there) (some_read (present_bytes t) some ∙ present_read t there h e)
    read_by false gone = rw (absent_bytes t gone) (none_read (replicate 8 0) refl ∙ absent_is t gone e)

    pub target_read : target_of (target_bytes t) ≡ t
    target_read = read_by t.present refl

    plain_by : (p : Bool) → t.present ≡ p → AsWritten (target_bytes t)
    plain_by true there = rw (present_bytes_lem t there) (inr (present_fields t there h e))
    plain_by false gone = inl (absent_bytes t gone)

    pub target_plain : AsWritten (target_bytes t)
    target_plain = plain_by t.present refl

-- A field has two bytes, so it is below 65,536.
little_wide : (s : List ℕ) → Bytes s → length s ≡ 2 → little s < 65536
little_wide [] h n = omega arith
little_wide (a ∷ []) h n = omega arith
little_wide (a ∷ b ∷ []) h n = omega (arith, h.0, h.1.0)
little_wide (a ∷ b ∷ c ∷ s) h n = omega arith

module _ (b : List ℕ) (h : Eight b) where
  field_wide : (i : ℕ) → i + 2 ≤ length b → field_at b i < 65536
  field_wide i l =
      little_wide (take 2 (drop i b)) (bytes_take 2 (drop i b) (bytes_drop i b h.bytes))
      (simp (length-take, length-drop) (omega arith))

  -- `AsWritten` bytes are written back for the target that they are read as.
  present_again : (field_at b 0 ≢ 0) × (field_at b 2 ≢ 0) × (field_at b 4 ≢ 0) → target_bytes (present_of b) ≡ b
  unfolding target_bytes
  present_again k =
      let n = h.size in
      let ended = drop_of_length-le b {i = 8} (omega arith) in
      let last = le_bytes_again 2 b 6 [] h.bytes (omega arith) (sym ended) in
      rw (
        said_raw (field_at b 0) (field_wide 0 (omega arith)) k.0,
        said_raw (field_at b 2) (field_wide 2 (omega arith)) k.1,
        said_raw (field_at b 4) (field_wide 4 (omega arith)) k.2,
      )
      (le_bytes_again 2 b 0 (le_bytes 2 (field_at b 2) ++ (le_bytes 2 (field_at b 4) ++ le_bytes 2 (field_at b 6)))
      h.bytes (omega arith)
      (le_bytes_again 2 b 2 (le_bytes 2 (field_at b 4) ++ le_bytes 2 (field_at b 6)) h.bytes (omega arith)
      (le_bytes_again 2 b 4 (le_bytes 2 (field_at b 6)) h.bytes (omega arith) last)))

  pub target_again : AsWritten b → target_bytes (target_of b) ≡ b
  unfolding target_bytes
  target_again (inl e) = rw (none_read b e) (sym e)
  target_again (inr k) = rw (some_read b (field_some b k.0)) (present_again k)

-- Whatever is read can be written.
module _ (b : List ℕ) where
  writable_by : (p : Bool) → same_bytes b (replicate 8 0) ≡ p → writable (target_of b) ≡ true
  unfolding target_of writable
  writable_by true e = rw e
  writable_by false e =
      rw (e, said_sayable (field_at b 0), said_sayable (field_at b 2), said_sayable (field_at b 4))

  pub target_writable : writable (target_of b) ≡ true
  target_writable = writable_by (same_bytes b (replicate 8 0)) refl
