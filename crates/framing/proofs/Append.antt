-- A division of s ++ t is the finished pieces of s, and then a division of the unfinished end of s with t behind it.
use mathlib.Core.Path.{◌≡◌, refl, sym, ◌∙◌, ap}
use mathlib.Core.List.{List, [], ◌∷◌, ◌++◌, append-nil}
use Prim.Native.Nat.{ℕ, ◌+◌}
use native.Mathlib.Omega.{arith}
use Rattle.framing.proofs.Framing.{Framing, Divides}
use Rattle.framing.specs.Piece.{Piece, stray, broken, whole, unfinished}
use Rattle.framing.specs.Division.{finished, cut}
use Rattle.framing.proofs.Counting.{Counting, total}
use Rattle.framing.proofs.Scanner.{Step, step, closed, rest, leftover}
use Rattle.framing.proofs.Division.{sum-append}
use Rattle.framing.proofs.View.{Does, does_end, does_open, does_stray, does_break, does}
use Rattle.framing.proofs.View.{nothing_waits, rest_waits}
use Rattle.framing.proofs.Scanned.{from, from-append, scanner_complete, division_unique, scanner_sound}

leftover_finished : (p : List ℕ) → finished (leftover p) ≡ []
leftover_finished [] = refl
leftover_finished (b ∷ p) = refl

leftover_cut : (p : List ℕ) → cut (leftover p) ≡ p
leftover_cut [] = refl
leftover_cut (b ∷ p) = append-nil (b ∷ p)

-- Only finished pieces add to a counter.
pub finished_total : {K : Type 0} (C : Counting K) (k : K) (ps : List Piece) → total C k (finished ps) ≡ total C k ps
finished_total C k [] = refl
finished_total C k (stray b ∷ ps) = omega (arith, finished_total C k ps)
finished_total C k (broken s ∷ ps) = omega (arith, finished_total C k ps)
finished_total C k (whole s ∷ ps) = omega (arith, finished_total C k ps)
finished_total C k (unfinished s ∷ ps) = omega (arith, finished_total C k ps, C.cut_adds_nothing k s)

module _ (F : Framing) where
  -- The pieces that a byte closes are finished, whatever pieces follow.
  module _ (qs : List Piece) where
    does_finished : {p : List ℕ} {c : ℕ} {r : Step} → Does F p c r
        → finished (r.closed ++ qs) ≡ r.closed ++ finished qs
    does_finished (does_end w) = refl
    does_finished (does_open w) = refl
    does_finished (does_stray w) = refl
    does_finished (does_break {b} {p} w d) = ap (λ (l : List Piece). broken (b ∷ p) ∷ l) (does_finished d)

    does_cut : {p : List ℕ} {c : ℕ} {r : Step} → Does F p c r → cut (r.closed ++ qs) ≡ cut qs
    does_cut (does_end w) = refl
    does_cut (does_open w) = refl
    does_cut (does_stray w) = refl
    does_cut (does_break w d) = does_cut d

  pub from_finished : (p s : List ℕ) → finished (from F p s) ≡ closed F p s
  from_finished p [] = leftover_finished p
  from_finished p (c ∷ s) =
      let r = step F p c in
      does_finished (from F r.pending s) (does F p c)
      ∙ ap (λ (l : List Piece). r.closed ++ l) (from_finished r.pending s)

  from_cut : (p s : List ℕ) → cut (from F p s) ≡ rest F p s
  from_cut p [] = leftover_cut p
  from_cut p (c ∷ s) =
      let r = step F p c in does_cut (from F r.pending s) (does F p c) ∙ from_cut r.pending s

  pub division_finished : {s : List ℕ} {ps : List Piece} → Divides F s ps → finished ps ≡ closed F [] s
  division_finished {s} d = ap finished (scanner_complete F d) ∙ from_finished [] s

  pub division_cut : {s : List ℕ} {ps : List Piece} → Divides F s ps → cut ps ≡ rest F [] s
  division_cut {s} d = ap cut (scanner_complete F d) ∙ from_cut [] s

  pub division_append : {s : List ℕ} (t : List ℕ) {ps qs : List Piece} → Divides F s ps → Divides F (s ++ t) qs
      → (rs : List Piece) × (qs ≡ finished ps ++ rs) × Divides F (cut ps ++ t) rs
  division_append {s} t d e = (
    from F (rest F [] s) t,
    scanner_complete F e ∙ from-append F [] s t
        ∙ ap (λ (l : List Piece). l ++ from F (rest F [] s) t) (sym (division_finished d)),
    rw (division_cut d) (scanner_sound F (rest F [] s) t (rest_waits F [] s (nothing_waits F))),
  )

  -- So totals add up: those of s, and of its unfinished end with t behind it.
  pub total-append : {K : Type 0} (C : Counting K) (k : K) {s : List ℕ} (t : List ℕ) {ps qs rs : List Piece}
      → Divides F s ps → Divides F (s ++ t) qs → Divides F (cut ps ++ t) rs
      → total C k qs ≡ total C k ps + total C k rs
  total-append C k t {ps} {qs} {rs} d e r =
      let x = division_append t d e in
      omega (
        arith,
        ap (total C k) x.1,
        sum-append (C.adds k) (finished ps) x.0,
        finished_total C k ps,
        ap (total C k) (division_unique F x.2 r),
      )
