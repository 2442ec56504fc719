-- Two functions that give one list over a list of rows give one value at each of them: one computation serves a table.
use mathlib.Core.Path.{◌≡◌}
use mathlib.Core.List.{List, [], ◌∷◌, map}
use Rattle.wire.specs.Bytes.{Every}

module _ {A B C : Type 0} (f g : A → C) (row : A → B) (Holds : B → Type 0) where
  -- What follows where the two agree holds of each row.
  pub rows_hold : ((a : A) → f a ≡ g a → Holds (row a)) → (l : List A) → map f l ≡ map g l → Every Holds (map row l)
  rows_hold h [] e = tt
  rows_hold h (a ∷ l) e = (h a (cc), rows_hold h l (cc))
