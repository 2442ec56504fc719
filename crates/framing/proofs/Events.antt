-- The scanner ends a frame exactly where a whole frame of the division ends, whatever bytes follow.
use mathlib.Core.Path.{◌≡◌, refl, ap}
use mathlib.Core.Logic.{◌↔◌}
use mathlib.Core.List.{List, [], ◌∷◌, ◌++◌}
use mathlib.Core.Option.{Option, none, some}
use Prim.Native.Nat.{ℕ, suc, ◌+◌, ◌<◌}
use native.Mathlib.Omega.{arith}
use lib.ListN.{length, length-append}
use Rattle.framing.proofs.Framing.{Framing, Divides}
use Rattle.framing.specs.Piece.{Piece, broken}
use Rattle.framing.specs.Division.{EndsAt}
use Rattle.framing.proofs.Scanner.{Step, step, rest, leftover}
use Rattle.framing.proofs.Ends.{Ends, here, later, ends_out, ends_in, ends-nil, ends_to, ends_after}
use Rattle.framing.proofs.Ends.{ends_past}
use Rattle.framing.proofs.View.{Does, does_end, does_open, does_stray, does_break, does, step_length}
use Rattle.framing.proofs.Scanned.{from, then, scanner_complete}

pub none≢some : {f : List ℕ} → ◌≡◌ {A = Option (List ℕ)} none (some f) → ⊥
none≢some e = let z : ◌≡◌ {A = ℕ} 0 1 = cc in omega arith

module _ (F : Framing) where
  -- After the pending string p, every frame ends past the bytes of p.
  late_end : (p : List ℕ) (n : ℕ) (f : List ℕ) → Ends (leftover p) n f → length p < n
  late_end [] n f x = absurd (ends-nil x)
  late_end (b ∷ p) n f (later x h) = absurd (ends-nil x)

  module _ (t : List ℕ) (ih : (p : List ℕ) (n : ℕ) (f : List ℕ) → Ends (from F p t) n f → length p < n) where
    late_on : {p : List ℕ} {c : ℕ} {r : Step} {n : ℕ} {f : List ℕ} → Does F p c r → Ends (then F r t) n f → length p < n
    late_on (does_end {p} {c} w) (here q h) = omega (arith, length-append p (c ∷ []))
    late_on (does_end {p} {c} w) (later x h) = omega (arith, length-append p (c ∷ []))
    late_on {n = n} {f} (does_open {p} {c} w) x = omega (arith, length-append p (c ∷ []), ih (p ++ (c ∷ [])) n f x)
    late_on (does_stray w) (later x h) = omega arith
    late_on (does_break w d) (later x h) = omega (arith, late_on d x)

  pub late : (p t : List ℕ) (n : ℕ) (f : List ℕ) → Ends (from F p t) n f → length p < n
  late p [] n f x = late_end p n f x
  late p (c ∷ t) n f x = late_on t (λ q. late q t) (does F p c) x

  -- A frame ends at the next byte if and only if the scanner says so.
  module _ (t : List ℕ) where
    does_event : {p : List ℕ} {c : ℕ} {r : Step} {n : ℕ} {f : List ℕ} → Does F p c r → n ≡ suc (length p)
        → Ends (then F r t) n f → r.ended ≡ some f
    does_event (does_end w) e (here q h) = ap {B = Option (List ℕ)} some q
    does_event {f = f} (does_end {p} {c} w) e (later {m = k} x h) =
        absurd (omega (arith, length-append p (c ∷ []), late [] t k f x))
    does_event {n = n} {f} (does_open {p} {c} w) e x =
        absurd (omega (arith, length-append p (c ∷ []), late (p ++ (c ∷ [])) t n f x))
    does_event {f = f} (does_stray w) e (later {m = k} x h) = absurd (omega (arith, late [] t k f x))
    does_event (does_break w d) e (later x h) = does_event d (omega arith) x

    event_does : {p : List ℕ} {c : ℕ} {r : Step} {f : List ℕ} → Does F p c r → r.ended ≡ some f
        → Ends (then F r t) (suc (length p)) f
    event_does {f = f} (does_end {p} {c} w) e =
        let q : p ++ (c ∷ []) ≡ f = cc in here {n = suc (length p)} q (omega (arith, length-append p (c ∷ [])))
    event_does (does_open w) e = absurd (none≢some e)
    event_does (does_stray w) e = absurd (none≢some e)
    event_does (does_break {b} {p} w d) e =
        later {p = broken (b ∷ p)} {n = suc (suc (length p))} (event_does d e) (omega arith)

  pub step_event : (p : List ℕ) (c : ℕ) (t f : List ℕ) → Ends (from F p (c ∷ t)) (suc (length p)) f
      → (step F p c).ended ≡ some f
  step_event p c t f x = does_event t (does F p c) refl x

  pub event_step : (p : List ℕ) (c : ℕ) (t f : List ℕ) → (step F p c).ended ≡ some f
      → Ends (from F p (c ∷ t)) (suc (length p)) f
  event_step p c t f x = event_does t (does F p c) x

  -- Bytes taken shift the ends of later frames.
  shift_one : (p : List ℕ) (c : ℕ) (v : List ℕ) (j : ℕ) (f : List ℕ) → 0 < j →
      let q : List ℕ = (step F p c).pending in
      Ends (from F p (c ∷ v)) (length p + suc j) f ↔ Ends (from F q v) (length q + j) f
  shift_one p c v j f h =
      let r = step F p c in (
        (λ x. ends_past r.closed x (omega (arith, step_length F p c)) (omega arith)),
        (λ x. ends_to (omega (arith, step_length F p c)) (ends_after r.closed x)),
      )

  pub shift : (p u v : List ℕ) (j : ℕ) (f : List ℕ) → 0 < j →
      let q : List ℕ = rest F p u in
      Ends (from F p (u ++ v)) (length p + (length u + j)) f ↔ Ends (from F q v) (length q + j) f
  shift p [] v j f h = ((λ x. ends_to (omega arith) x), (λ x. ends_to (omega arith) x))
  shift p (c ∷ u) v j f h =
      let one = shift_one p c (u ++ v) (length u + j) f (omega arith) in
      let more = shift (step F p c).pending u v j f h in (
        (λ x. more.0 (one.0 (ends_to (omega arith) x))),
        (λ x. ends_to (omega arith) (one.1 (more.1 x))),
      )

  -- The byte c after s ends the frame f if and only if f ends there in the division, whatever bytes t follow.
  pub event : (s : List ℕ) (c : ℕ) (t : List ℕ) {ps : List Piece} → Divides F (s ++ (c ∷ t)) ps → (f : List ℕ)
      → EndsAt ps (length s + 1) f ↔ ((step F (rest F [] s) c).ended ≡ some f)
  event s c t {ps} d f =
      let e = shift [] s (c ∷ t) 1 f (omega arith) in
      let q = scanner_complete F d in (
        (λ x. step_event (rest F [] s) c t f
            (ends_to (omega arith) (e.0 (ends_to (omega arith) (rw q at (ends_in x)))))),
        (λ x. rw q (ends_out (ends_to (omega arith)
            (e.1 (ends_to (omega arith) (event_step (rest F [] s) c t f x)))))),
      )
