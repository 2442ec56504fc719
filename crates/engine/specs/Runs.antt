-- Runs of calls on any machine.
--   Machine S C D    a machine: a call in C on a state in S leaves a state, and what it did is in D
--   history M s cs   what the calls cs did from the state s, one after another
--   final M s cs     the state that they left
use Rattle.std.specs.Prelude.{List, [], ◌∷◌}

abbrev pub Machine : Type 0 → Type 0 → Type 0 → Type 0
Machine S C D = S → C → S × D

module _ {S C D : Type 0} (M : Machine S C D) where
  abbrev pub history : S → List C → List D
  history s [] = []
  history s (c ∷ cs) = (M s c).1 ∷ history (M s c).0 cs

  abbrev pub final : S → List C → S
  final s [] = s
  final s (c ∷ cs) = final (M s c).0 cs
