-- The four things that a byte can do, and what follows from each.
use mathlib.Core.Path.{◌≡◌, refl}
use mathlib.Core.List.{List, [], ◌∷◌, ◌++◌, append-nil}
use Prim.Native.Nat.{ℕ, suc, ◌+◌}
use native.Mathlib.Omega.{arith}
use lib.ListN.{length, length-append}
use Rattle.framing.proofs.Framing.{Framing, Waits}
use Rattle.framing.specs.Piece.{spelled}
use Rattle.framing.proofs.Scanner.{Step, ends, leaves_open, strays, breaks, grown, start, over, step, rest}

module _ {W O : Type 0} where
  grown_whole : (d : Dec W) (e : Dec O) (s : List ℕ) (r : Step) → W → grown d e s r ≡ ends s
  grown_whole (yes w) e s r x = refl
  grown_whole (no n) e s r x = absurd (n x)

  grown_on : (d : Dec W) (e : Dec O) (s : List ℕ) (r : Step) → ¬ W → O → grown d e s r ≡ leaves_open s
  grown_on (yes w) e s r n x = absurd (n w)
  grown_on (no m) (yes o) s r n x = refl
  grown_on (no m) (no o) s r n x = absurd (o x)

  grown_over : (d : Dec W) (e : Dec O) (s : List ℕ) (r : Step) → ¬ W → ¬ O → grown d e s r ≡ r
  grown_over (yes w) e s r n x = absurd (n w)
  grown_over (no m) (yes o) s r n x = absurd (x o)
  grown_over (no m) (no o) s r n x = refl

module _ (F : Framing) where
  pub nothing_waits : Waits F []
  nothing_waits = (F.laws.empty_open, F.laws.empty_not_whole)

  -- The byte c after the pending string p does the step r, with the reason.
  pub data Does : List ℕ → ℕ → Step → Type 0 where
    does_end : {p : List ℕ} {c : ℕ} → F.Whole (p ++ (c ∷ [])) → Does p c (ends (p ++ (c ∷ [])))
    does_open : {p : List ℕ} {c : ℕ} → Waits F (p ++ (c ∷ [])) → Does p c (leaves_open (p ++ (c ∷ [])))
    does_stray : {c : ℕ} → ¬ F.Open (c ∷ []) → Does [] c (strays c)
    does_break : {b : ℕ} {p : List ℕ} {c : ℕ} {r : Step} → ¬ F.Open (b ∷ p ++ (c ∷ [])) → Does [] c r
        → Does (b ∷ p) c (breaks (b ∷ p) r)

  does_grown : (p : List ℕ) (c : ℕ) (r : Step) (d : Dec (F.Whole (p ++ (c ∷ [])))) (e : Dec (F.Open (p ++ (c ∷ []))))
      → (¬ F.Open (p ++ (c ∷ [])) → Does p c r) → Does p c (grown d e (p ++ (c ∷ [])) r)
  does_grown p c r (yes w) e h = does_end {p = p} w
  does_grown p c r (no n) (yes o) h = does_open {p = p} (o, n)
  does_grown p c r (no n) (no o) h = h o

  does_start : (c : ℕ) → Does [] c (start F c)
  does_start c = does_grown [] c (strays c) (F.whole? (c ∷ [])) (F.open? (c ∷ [])) does_stray

  -- Each byte does one of the four.
  pub does : (p : List ℕ) (c : ℕ) → Does p c (step F p c)
  does [] c = does_start c
  does (b ∷ p) c = does_grown (b ∷ p) c (breaks (b ∷ p) (start F c)) (F.whole? (b ∷ p ++ (c ∷ [])))
      (F.open? (b ∷ p ++ (c ∷ []))) (λ o. does_break o (does_start c))

  -- Which of them, by what the longer string is.
  pub step_whole : (p : List ℕ) (c : ℕ) → F.Whole (p ++ (c ∷ [])) → step F p c ≡ ends (p ++ (c ∷ []))
  step_whole p c w = grown_whole (F.whole? (p ++ (c ∷ []))) (F.open? (p ++ (c ∷ []))) (p ++ (c ∷ [])) (over F p c) w

  pub step_on : (p : List ℕ) (c : ℕ) → Waits F (p ++ (c ∷ [])) → step F p c ≡ leaves_open (p ++ (c ∷ []))
  step_on p c w = grown_on (F.whole? (p ++ (c ∷ []))) (F.open? (p ++ (c ∷ []))) (p ++ (c ∷ [])) (over F p c) w.1
      w.0

  pub step_over : (p : List ℕ) (c : ℕ) → ¬ F.Open (p ++ (c ∷ [])) → step F p c ≡ over F p c
  step_over p c n = grown_over (F.whole? (p ++ (c ∷ []))) (F.open? (p ++ (c ∷ []))) (p ++ (c ∷ [])) (over F p c)
      (λ w. n (F.laws.whole_open _ w)) n

  -- What is pending after a byte is open and not whole, and no byte is lost.
  does_waits : {p : List ℕ} {c : ℕ} {r : Step} → Does p c r → Waits F r.pending
  does_waits (does_end x) = nothing_waits
  does_waits (does_open x) = x
  does_waits (does_stray x) = nothing_waits
  does_waits (does_break x d) = does_waits d

  pub step_waits : (p : List ℕ) (c : ℕ) → Waits F (step F p c).pending
  step_waits p c = does_waits (does p c)

  pub rest_waits : (p s : List ℕ) → Waits F p → Waits F (rest F p s)
  rest_waits p [] w = w
  rest_waits p (c ∷ s) w = rest_waits (step F p c).pending s (step_waits p c)

  does_length : {p : List ℕ} {c : ℕ} {r : Step} → Does p c r
      → length (spelled r.closed) + length r.pending ≡ suc (length p)
  does_length (does_end {p} {c} x) = rw append-nil (omega (arith, length-append p (c ∷ [])))
  does_length (does_open {p} {c} x) = omega (arith, length-append p (c ∷ []))
  does_length (does_stray x) = refl
  does_length (does_break {b} {p} {r = r} x d) =
      omega (arith, does_length d, length-append (b ∷ p) (spelled r.closed))

  pub step_length : (p : List ℕ) (c : ℕ)
      → length (spelled (step F p c).closed) + length (step F p c).pending ≡ suc (length p)
  step_length p c = does_length (does p c)
