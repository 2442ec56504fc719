-- Report data that pass the checks: type, AA, the basic bytes and what follows them, 55, 00.
use mathlib.Core.Path.{◌≡◌, refl}
use mathlib.Core.List.{List, [], ◌∷◌, ◌++◌}
use mathlib.Core.Bool.{Bool, true, false, not, ◌||◌}
use Prim.Native.Nat.{ℕ, ◌+◌, ◌-◌, ◌≤◌}
use native.Mathlib.Omega.{arith}
use lib.Dec.{eqb}
use lib.ListN.{length, get_or, drop, length-append, take-append-drop}
use lib.Seq.{take_at, drop_at, drop-drop}
use borrow.Author.Tests.{le-leb, leb-true, eqb-true}
use Rattle.refusal.specs.Check.{Passes}
use Rattle.wire.proofs.Equality.{same_sound, same_complete}
use Rattle.engineering.specs.Gates.{gates_fit}
use Rattle.report.specs.Layout.{data_type_in, body, block}
use Rattle.report.specs.LayoutCheck.{report_checks, known_type, nothing_after, block_fits}
use Rattle.engineering.proofs.Counts.{Fits, fits_sound}
use Rattle.report_writer.specs.Data.{trailer}

module _ (t h : ℕ) (c : List ℕ) where
  abbrev pub shaped : List ℕ
  shaped = t ∷ h ∷ (c ++ trailer)

  shaped_length : length shaped ≡ 4 + length c
  shaped_length = omega (arith, length-append c trailer)

  pub shaped_body : body shaped ≡ c
  shaped_body = take_at c trailer (length shaped - 4) (omega (arith, shaped_length))

  shaped_ends : drop (length shaped - 2) shaped ≡ trailer
  shaped_ends = drop_at (t ∷ h ∷ c) trailer (length shaped - 2) (omega (arith, shaped_length))

pub shaped_passes : (t : ℕ) (c : List ℕ) → 9 ≤ length c → known_type t ≡ true → nothing_after t (drop 9 c) ≡ true
    → block_fits t (drop 9 c) ≡ true → Passes report_checks (shaped t 0xAA c)
shaped_passes t c nine known none fit =
    let d = shaped t 0xAA c in
    let l = shaped_length t 0xAA c in
    let b = shaped_body t 0xAA c in (
      le-leb 2 (length d) (omega arith),
      (
        refl,
        (
          le-leb 4 (length d) (omega arith),
          (
            same_complete (drop (length d - 2) d) trailer (shaped_ends t 0xAA c),
            (rw b (le-leb 9 (length c) nine), (known, (rw b none, (rw b fit, tt)))),
          ),
        ),
      ),
    )

-- The two forms: type 02 with no block, or type 01 with a block that fits.
pub data View (t : ℕ) (b : List ℕ) : Type 0 where
  plain : t ≡ 0x02 → b ≡ [] → View t b
  full : t ≡ 0x01 → Fits b → View t b

empty : (b : List ℕ) → length b ≡ 0 → b ≡ []
empty [] e = refl
empty (x ∷ b) e = absurd (omega arith)

module _ (t : ℕ) (b : List ℕ) where
  view_by : (x y : Bool) → eqb t 0x01 ≡ x → eqb t 0x02 ≡ y → x || y ≡ true → not y || eqb (length b) 0 ≡ true
      → not x || gates_fit b ≡ true → View t b
  view_by true y e f k n h = full (eqb-true t 0x01 e) (fits_sound b h)
  view_by false true e f k n h = plain (eqb-true t 0x02 f) (empty b (eqb-true (length b) 0 n))
  view_by false false e f k n h = let z : ◌≡◌ {A = ℕ} 0 1 = cc in absurd (omega arith)

  view : known_type t ≡ true → nothing_after t b ≡ true → block_fits t b ≡ true → View t b
  view k n h = view_by (eqb t 0x01) (eqb t 0x02) refl refl k n h

-- The first two bytes and the rest are the string.
pub two_front : (b : List ℕ) → 2 ≤ length b → get_or b 0 0 ∷ get_or b 1 0 ∷ drop 2 b ≡ b
two_front [] h = absurd (omega arith)
two_front (x ∷ []) h = absurd (omega arith)
two_front (x ∷ y ∷ b) h = refl

pub record Shape (d : List ℕ) : Type 0 where
  pub whole : shaped (data_type_in d) 0xAA (body d) ≡ d
  pub nine : 9 ≤ length (body d)
  pub kind : View (data_type_in d) (block d)

pub passes_shape : (d : List ℕ) → Passes report_checks d → Shape d
passes_shape d p =
    let head = eqb-true (get_or d 1 0) 0xAA p.1.0 in
    let four = leb-true 4 (length d) p.1.1.0 in
    let ends = same_sound (drop (length d - 2) d) trailer p.1.1.1.0 in
    let more = p.1.1.1.1 in
    let n : 2 + (length d - 4) ≡ length d - 2 = omega arith in
    let rest = drop-drop (length d - 4) 2 d in
    record {
      whole = rw (← ends, ← n, ← rest, take-append-drop (length d - 4) (drop 2 d), ← head) (two_front d (omega arith));
      nine = leb-true 9 (length (body d)) more.0;
      kind = view (data_type_in d) (block d) more.1.0 more.1.1.0 more.1.1.1.0;
    }
