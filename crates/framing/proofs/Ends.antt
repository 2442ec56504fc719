-- Where frames end in a list of pieces: piece by piece, and with other pieces in front.
use mathlib.Core.Path.{◌≡◌, refl, sym, ◌∙◌, ap, subst}
use mathlib.Core.List.{List, [], ◌∷◌, ◌++◌, append_assoc}
use Prim.Native.Nat.{ℕ, ◌+◌, ◌<◌}
use native.Mathlib.Omega.{arith}
use lib.ListN.{length, length-append}
use Rattle.framing.specs.Piece.{Piece, whole, bytes, spelled}
use Rattle.framing.specs.Division.{EndsAt}

-- `EndsAt`, piece by piece.
pub data Ends : List Piece → ℕ → List ℕ → Type 0 where
  here : {g : List ℕ} {ps : List Piece} {n : ℕ} {f : List ℕ} → g ≡ f → length g ≡ n → Ends (whole g ∷ ps) n f
  later : {p : Piece} {ps : List Piece} {m n : ℕ} {f : List ℕ} → Ends ps m f → length (bytes p) + m ≡ n
      → Ends (p ∷ ps) n f

pub ends-nil : {n : ℕ} {f : List ℕ} → Ends [] n f → ⊥
ends-nil x = elim x [ ]

pub ends_to : {ps : List Piece} {m n : ℕ} {f : List ℕ} → m ≡ n → Ends ps m f → Ends ps n f
ends_to {ps} {f = f} e x = subst (λ (k : ℕ). Ends ps k f) e x

-- With one more piece in front.
ends_on : (p : Piece) {ps : List Piece} {m : ℕ} {f : List ℕ} → Ends ps m f → Ends (p ∷ ps) (length (bytes p) + m) f
ends_on p {m = m} x = later {p = p} {n = length (bytes p) + m} x refl

pub ends_out : {ps : List Piece} {n : ℕ} {f : List ℕ} → Ends ps n f → EndsAt ps n f
ends_out (here {g} {ps} {n} {f} q e) = record {
  before = [];
  after = ps;
  split = ap (λ (l : List ℕ). whole l ∷ ps) q;
  place = ap length (sym q) ∙ e;
}
ends_out (later {p} {ps} {m} {n} {f} x e) =
    let r = ends_out x in
    record {
      before = p ∷ r.before;
      after = r.after;
      split = ap (λ (l : List Piece). p ∷ l) r.split;
      place = rw append_assoc (omega (arith, length-append (bytes p) (spelled r.before ++ f), r.place));
    }

ends_among : (before after : List Piece) (f : List ℕ)
    → Ends (before ++ (whole f ∷ after)) (length (spelled before ++ f)) f
ends_among [] after f = here refl refl
ends_among (p ∷ before) after f = ends_to (sym (ap length (append_assoc (bytes p) (spelled before) f)
    ∙ length-append (bytes p) (spelled before ++ f))) (ends_on p (ends_among before after f))

pub ends_in : {ps : List Piece} {n : ℕ} {f : List ℕ} → EndsAt ps n f → Ends ps n f
ends_in {ps} {n} {f} r = rw r.split (ends_to r.place (ends_among r.before r.after f))

-- With the pieces qs in front, a frame ends later by their bytes.
pub ends_after : (qs : List Piece) {ps : List Piece} {n : ℕ} {f : List ℕ} → Ends ps n f
    → Ends (qs ++ ps) (length (spelled qs) + n) f
ends_after [] x = ends_to (omega arith) x
ends_after (q ∷ qs) x =
    ends_to (omega (arith, length-append (bytes q) (spelled qs))) (ends_on q (ends_after qs x))

-- A frame that ends past the bytes of qs is among the pieces after qs.
pub ends_past : (qs : List Piece) {ps : List Piece} {n m : ℕ} {f : List ℕ} → Ends (qs ++ ps) n f
    → length (spelled qs) + m ≡ n → 0 < m → Ends ps m f
ends_past [] x e h = ends_to (omega arith) x
ends_past (q ∷ qs) (here q' e') e h = absurd (omega (arith, length-append (bytes q) (spelled qs)))
ends_past (q ∷ qs) (later x e') e h = ends_past qs x (omega (arith, length-append (bytes q) (spelled qs))) h
