-- What a division's pieces spell and add up to.
use mathlib.Core.Path.{◌≡◌, refl, sym, ◌∙◌, ap}
use mathlib.Core.List.{List, [], ◌∷◌, ◌++◌, append_assoc, append-nil}
use Prim.Native.Nat.{ℕ, ◌+◌}
use native.Mathlib.Omega.{arith}
use lib.ListN.{length, length-append}
use Rattle.framing.specs.Piece.{Piece, stray, broken, whole, unfinished, bytes, spelled}
use Rattle.framing.specs.Division.{Division, is_empty, is_stray, is_broken, is_whole, is_unfinished}
use Rattle.framing.specs.Tally.{lost, in_frames, waiting, sum}

pub sum-append : (f : Piece → ℕ) (ps qs : List Piece) → sum f (ps ++ qs) ≡ sum f ps + sum f qs
sum-append f [] qs = omega arith
sum-append f (p ∷ ps) qs = omega (arith, sum-append f ps qs)

pub spelled_append : (ps qs : List Piece) → spelled (ps ++ qs) ≡ spelled ps ++ spelled qs
spelled_append [] qs = refl
spelled_append (p ∷ ps) qs = rw (spelled_append ps qs) (sym (append_assoc (bytes p) (spelled ps) (spelled qs)))

-- The pieces of a division spell the stream.
pub division_spelled : {O W : List ℕ → Type 0} {s : List ℕ} {ps : List Piece} → Division O W s ps → spelled ps ≡ s
division_spelled is_empty = refl
division_spelled (is_stray {b} n d) = ap (λ (l : List ℕ). b ∷ l) (division_spelled d)
division_spelled (is_broken {s} ne o w n d) = ap (λ (l : List ℕ). s ++ l) (division_spelled d)
division_spelled (is_whole {s} w d) = ap (λ (l : List ℕ). s ++ l) (division_spelled d)
division_spelled (is_unfinished {s} ne o w) = append-nil s

-- Each byte is lost, or in the unfinished end, or in a whole frame.
part : (p : Piece) → length (bytes p) ≡ lost p + waiting p + in_frames p
part (stray b) = refl
part (broken s) = omega arith
part (whole s) = omega arith
part (unfinished s) = omega arith

parts : (ps : List Piece) → length (spelled ps) ≡ sum lost ps + sum waiting ps + sum in_frames ps
parts [] = refl
parts (p ∷ ps) = omega (arith, length-append (bytes p) (spelled ps), part p, parts ps)

pub division_length : {O W : List ℕ → Type 0} {s : List ℕ} {ps : List Piece} → Division O W s ps
    → length s ≡ sum lost ps + sum waiting ps + sum in_frames ps
division_length {s = s} {ps} d = ap length (sym (division_spelled d)) ∙ parts ps

-- If the last piece is a whole frame, it ends where the string ends.
pub last_place : {O W : List ℕ → Type 0} {s : List ℕ} (ps : List Piece) (f : List ℕ)
    → Division O W s (ps ++ (whole f ∷ [])) → length (spelled ps ++ f) ≡ length s
last_place ps f d = ap length (ap (λ (l : List ℕ). spelled ps ++ l) (sym (append-nil f))
    ∙ sym (spelled_append ps (whole f ∷ [])) ∙ division_spelled d)
