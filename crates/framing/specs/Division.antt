-- The division of a stream into pieces: document 01, "The division of a stream", for any choice of the strings that are
-- open and of those that are whole frames.
--   Division s ps   the string s is cut into the pieces ps
--   Divided s       s has exactly one division
--   EndsAt ps n f   the whole frame f is among the pieces ps, and ends after n bytes
--   finished ps     the pieces without the unfinished end: those that no later byte can change
--   cut ps          the bytes of the unfinished end, none if there is none
use Rattle.std.specs.Prelude.{◌≡◌, ◌≢◌, List, [], ◌∷◌, ◌++◌, ℕ, length}
use Rattle.framing.specs.Piece.{Piece, stray, broken, whole, unfinished, spelled}

pub data Division (Open Whole : List ℕ → Type 0) : List ℕ → List Piece → Type 0 where
  is_empty : Division Open Whole [] []
  -- 01's stray: one byte that begins no frame
  is_stray : {b : ℕ} {t : List ℕ} {ps : List Piece}
      → ¬ Open (b ∷ [])
      → Division Open Whole t ps
      → Division Open Whole (b ∷ t) (stray b ∷ ps)
  -- 01's broken start: open, not empty, not whole, and no longer open with the byte c that follows it in the stretch.
  -- That byte is not part of it: it is the first of what is divided next
  is_broken : {s : List ℕ} {c : ℕ} {t : List ℕ} {ps : List Piece}
      → s ≢ [] → Open s → ¬ Whole s
      → ¬ Open (s ++ (c ∷ []))
      → Division Open Whole (c ∷ t) ps
      → Division Open Whole (s ++ (c ∷ t)) (broken s ∷ ps)
  -- 01's whole frame
  is_whole : {s t : List ℕ} {ps : List Piece}
      → Whole s
      → Division Open Whole t ps
      → Division Open Whole (s ++ t) (whole s ∷ ps)
  -- 01's unfinished end: open, not empty, not whole, last in the stretch
  is_unfinished : {s : List ℕ}
      → s ≢ [] → Open s → ¬ Whole s
      → Division Open Whole s (unfinished s ∷ [])

pub record Divided (Open Whole : List ℕ → Type 0) (s : List ℕ) : Type 0 where
  pub pieces : List Piece
  pub division : Division Open Whole s pieces
  pub only : (ps : List Piece) → Division Open Whole s ps → ps ≡ pieces

pub record EndsAt (ps : List Piece) (n : ℕ) (f : List ℕ) : Type 0 where
  pub before : List Piece
  pub after : List Piece
  pub split : ps ≡ before ++ (whole f ∷ after)
  pub place : length (spelled before ++ f) ≡ n

abbrev pub finished : List Piece → List Piece
finished [] = []
finished (stray b ∷ ps) = stray b ∷ finished ps
finished (broken s ∷ ps) = broken s ∷ finished ps
finished (whole s ∷ ps) = whole s ∷ finished ps
finished (unfinished s ∷ ps) = finished ps

abbrev pub cut : List Piece → List ℕ
cut [] = []
cut (stray b ∷ ps) = cut ps
cut (broken s ∷ ps) = cut ps
cut (whole s ∷ ps) = cut ps
cut (unfinished s ∷ ps) = s ++ cut ps
