-- The scanner's pieces are the division, and the only one.
use mathlib.Core.Path.{◌≡◌, refl, sym, ◌∙◌, ap}
use mathlib.Core.Logic.{◌≢◌}
use mathlib.Core.List.{List, [], ◌∷◌, ◌++◌, append_assoc, append-nil, cons≢nil}
use Prim.Native.Nat.{ℕ}
use lib.Seq.{append_snoc}
use Rattle.framing.proofs.Framing.{Framing, Waits, Divides, DividedIn}
use Rattle.framing.specs.Piece.{Piece, stray, broken, whole, unfinished}
use Rattle.framing.specs.Division.{is_empty, is_stray, is_broken, is_whole, is_unfinished}
use Rattle.framing.proofs.Scanner.{Step, step, closed, rest, leftover, pieces}
use Rattle.framing.proofs.View.{nothing_waits, Does, does_end, does_open, does_stray, does_break, does}
use Rattle.framing.proofs.View.{step_whole, step_on, step_over}

module _ (F : Framing) where
  -- The pieces of s after the pending string p; those of the step r, and of s after it.
  abbrev pub from : List ℕ → List ℕ → List Piece
  from p [] = leftover p
  from p (c ∷ s) = (step F p c).closed ++ from (step F p c).pending s

  abbrev pub then : Step → List ℕ → List Piece
  then r s = r.closed ++ from r.pending s

  pub from-append : (p s t : List ℕ) → from p (s ++ t) ≡ closed F p s ++ from (rest F p s) t
  from-append p [] t = refl
  from-append p (c ∷ s) t =
      let r = step F p c in
      ap (λ (l : List Piece). r.closed ++ l) (from-append r.pending s t)
      ∙ sym (append_assoc r.closed (closed F r.pending s) (from (rest F r.pending s) t))

  -- A proper prefix of an open string is open, and not whole.
  before_more : (q : List ℕ) (d : ℕ) (t : List ℕ) → F.Open (q ++ (d ∷ t)) → Waits F q
  before_more q d t o =
      let longer : F.Open (q ++ (d ∷ [])) = F.laws.open_prefix (q ++ (d ∷ [])) t (rw append_snoc o) in
      (F.laws.open_prefix q (d ∷ t) o, λ w. F.laws.whole_ends q d w longer)

  waits_before : (q t : List ℕ) → Waits F (q ++ t) → Waits F q
  waits_before q [] w = rw append-nil at w
  waits_before q (d ∷ t) w = before_more q d t w.0

  -- Bytes that keep the string waiting are added to what is pending.
  pub absorb : (p t u : List ℕ) → Waits F (p ++ t) → from p (t ++ u) ≡ from (p ++ t) u
  absorb p [] u w = rw append-nil
  absorb p (c ∷ t) u w =
      let w' : Waits F ((p ++ (c ∷ [])) ++ t) = rw append_snoc w in
      ap (λ (r : Step). then r (t ++ u)) (step_on F p c (waits_before (p ++ (c ∷ [])) t w'))
      ∙ absorb (p ++ (c ∷ [])) t u w' ∙ ap (λ (l : List ℕ). from l u) (append_snoc p c t)

  -- A whole frame becomes a piece.
  read : (p : List ℕ) (c : ℕ) (t u : List ℕ) → F.Whole (p ++ (c ∷ t))
      → from p (c ∷ (t ++ u)) ≡ whole (p ++ (c ∷ t)) ∷ from [] u
  read p c [] u w = ap (λ (r : Step). then r u) (step_whole F p c w)
  read p c (d ∷ t) u w =
      let q = p ++ (c ∷ []) in
      let w' : F.Whole (q ++ (d ∷ t)) = rw append_snoc w in
      ap (λ (r : Step). then r (d ∷ (t ++ u))) (step_on F p c (before_more q d t (F.laws.whole_open _ w')))
      ∙ read q d t u w' ∙ ap (λ (l : List ℕ). whole l ∷ from [] u) (append_snoc p c (d ∷ t))

  pub reads : (s u : List ℕ) → F.Whole s → from [] (s ++ u) ≡ whole s ∷ from [] u
  reads [] u w = absurd (F.laws.empty_not_whole w)
  reads (c ∷ t) u w = read [] c t u w

  pub strays_first : (b : ℕ) (t : List ℕ) → ¬ F.Open (b ∷ []) → from [] (b ∷ t) ≡ stray b ∷ from [] t
  strays_first b t n = ap (λ (r : Step). then r t) (step_over F [] b n)

  pub breaks_first : (s : List ℕ) (c : ℕ) (t : List ℕ) → s ≢ [] → Waits F s → ¬ F.Open (s ++ (c ∷ []))
      → from [] (s ++ (c ∷ t)) ≡ broken s ∷ from [] (c ∷ t)
  breaks_first [] c t ne w n = absurd (ne refl)
  breaks_first (b ∷ s) c t ne w n =
      absorb [] (b ∷ s) (c ∷ t) w ∙ ap (λ (r : Step). then r t) (step_over F (b ∷ s) c n)

  waits_last : (s : List ℕ) → s ≢ [] → Waits F s → from [] s ≡ unfinished s ∷ []
  waits_last [] ne w = absurd (ne refl)
  waits_last (b ∷ s) ne w = ap (λ (l : List ℕ). from [] l) (sym (append-nil (b ∷ s))) ∙ absorb [] (b ∷ s) [] w

  -- Every division is the scanner's.
  pub scanner_complete : {s : List ℕ} {ps : List Piece} → Divides F s ps → ps ≡ from [] s
  scanner_complete is_empty = refl
  scanner_complete (is_stray {b} {t} n d) =
      ap (λ (l : List Piece). stray b ∷ l) (scanner_complete d) ∙ sym (strays_first b t n)
  scanner_complete (is_broken {s} {c} {t} ne o w n d) =
      ap (λ (l : List Piece). broken s ∷ l) (scanner_complete d) ∙ sym (breaks_first s c t ne (o, w) n)
  scanner_complete (is_whole {s} {t} w d) =
      ap (λ (l : List Piece). whole s ∷ l) (scanner_complete d) ∙ sym (reads s t w)
  scanner_complete (is_unfinished {s} ne o w) = sym (waits_last s ne (o, w))

  -- The scanner's pieces are a division.
  last : (p : List ℕ) → Waits F p → Divides F (p ++ []) (leftover p)
  last [] w = is_empty
  last (b ∷ p) w = rw append-nil (is_unfinished cons≢nil w.0 w.1)

  module _ (s : List ℕ) (ih : (p : List ℕ) → Waits F p → Divides F (p ++ s) (from p s)) where
    goes : {p : List ℕ} {c : ℕ} {r : Step} → Does F p c r → Waits F p → Divides F (p ++ (c ∷ s)) (then r s)
    goes (does_end {p} {c} x) w = rw (← append_snoc p c s) (is_whole x (ih [] (nothing_waits F)))
    goes (does_open {p} {c} x) w = rw (← append_snoc p c s) (ih (p ++ (c ∷ [])) x)
    goes (does_stray x) w = is_stray x (ih [] (nothing_waits F))
    goes (does_break x d) w = is_broken cons≢nil w.0 w.1 x (goes d (nothing_waits F))

  pub scanner_sound : (p s : List ℕ) → Waits F p → Divides F (p ++ s) (from p s)
  scanner_sound p [] w = last p w
  scanner_sound p (c ∷ s) w = goes s (λ q. scanner_sound q s) (does F p c) w

  -- Each string has exactly one division: the scanner's.
  unfoldable pub divided : (s : List ℕ) → DividedIn F s
  divided s = record {
    pieces = from [] s;
    division = scanner_sound [] s (nothing_waits F);
    only = λ ps d. scanner_complete d;
  }

  pub division_unique : {s : List ℕ} {ps qs : List Piece} → Divides F s ps → Divides F s qs → ps ≡ qs
  division_unique d e = scanner_complete d ∙ sym (scanner_complete e)

  pub from_is : (p s : List ℕ) → from p s ≡ closed F p s ++ leftover (rest F p s)
  from_is p s = ap (λ (l : List ℕ). from p l) (sym (append-nil s)) ∙ from-append p s []

  pub division_exists : (s : List ℕ) → Divides F s (pieces F s)
  division_exists s = rw (← from_is [] s) (scanner_sound [] s (nothing_waits F))
