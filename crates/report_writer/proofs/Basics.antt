-- The nine basic bytes: the fields come back, and the bytes do if the state byte is at most `state_max`.
use mathlib.Core.Path.{◌≡◌, refl, sym}
use mathlib.Core.List.{List, ◌∷◌, ◌++◌}
use Prim.Native.Nat.{ℕ, ◌+◌, ◌≤◌, ◌<◌}
use native.Mathlib.Numerals.{add-one}
use native.Mathlib.Omega.{arith}
use lib.ListN.{length, get_or, drop}
use lib.Seq.{drop-cons}
use Rattle.wire.specs.Bytes.{Bytes}
use Rattle.wire.proofs.Bytes.{le_bytes_again, little_two}
use Rattle.target_state.specs.State.{state_max}
use Rattle.report.specs.Basic.{basic_of}
use Rattle.report.specs.Report.{report_with}
use Rattle.engineering.specs.declared.Engineering.{Engineering}
use Rattle.report.specs.declared.Report.{Report}
use Rattle.target_state.proofs.States.{state_byte_lem, byte_kept}
use Rattle.report_writer.specs.Data.{basic_bytes}
use Rattle.report_writer.proofs.Typed.{TypedReport}
use mathlib.Core.Bool.{Bool}

-- The fields come back, whatever follows the nine bytes.
pub basic_back : (r : Report) (b : List ℕ) {g : Bool} {x : Engineering} → TypedReport r → g ≡ r.has_engineering
    → x ≡ r.engineering → report_with (basic_of (basic_bytes r ++ b)) g x ≡ r
basic_back r b t p q =
    rw (
      state_byte_lem r.state,
      little_two r.moving_distance_cm t.moving_distance,
      little_two r.stationary_distance_cm t.stationary_distance,
      little_two r.detection_distance_cm t.detection_distance,
      p,
      q,
    )

-- A byte and those after it.
byte_again : (s : List ℕ) (i : ℕ) (r : List ℕ) → i < length s → r ≡ drop (i + 1) s → get_or s i 0 ∷ r ≡ drop i s
byte_again s i r h e = rw (e, add-one i) (sym (drop-cons s i 0 h))

-- The bytes come back, if the state byte is at most `state_max`.
pub basic_again : (s : List ℕ) (flag : Bool) (e : Engineering) → 9 ≤ length s → Bytes s
    → get_or s 0 0 ≤ state_max → basic_bytes (report_with (basic_of s) flag e) ++ drop 9 s ≡ s
basic_again s flag e h b k =
    let s₇ = le_bytes_again 2 s 7 (drop 9 s) b (omega arith) refl in
    let s₆ = byte_again s 6 _ (omega arith) s₇ in
    let s₄ = le_bytes_again 2 s 4 _ b (omega arith) s₆ in
    let s₃ = byte_again s 3 _ (omega arith) s₄ in
    let s₁ = le_bytes_again 2 s 1 _ b (omega arith) s₃ in
    rw (byte_kept (get_or s 0 0) k) (byte_again s 0 _ (omega arith) s₁)
