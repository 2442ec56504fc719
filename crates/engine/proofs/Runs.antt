-- A run of two lists of calls is the run of the first, then that of the second.
use mathlib.Core.Path.{◌≡◌, refl, ap}
use mathlib.Core.List.{List, [], ◌∷◌, ◌++◌}
use Rattle.engine.specs.Runs.{Machine, history, final}

module _ {S C D : Type 0} (M : Machine S C D) where
  pub history_append : (s : S) (cs ds : List C) → history M s (cs ++ ds) ≡ history M s cs ++ history M (final M s cs) ds
  history_append s [] ds = refl
  history_append s (c ∷ cs) ds = ap (λ (l : List D). (M s c).1 ∷ l) (history_append (M s c).0 cs ds)

  pub final_append : (s : S) (cs ds : List C) → final M s (cs ++ ds) ≡ final M (final M s cs) ds
  final_append s [] ds = refl
  final_append s (c ∷ cs) ds = final_append (M s c).0 cs ds
