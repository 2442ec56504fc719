-- A table that passes the test of its rule, which is computed once over the whole of it, has the rule at each entry.
use mathlib.Core.Path.{◌≡◌}
use mathlib.Core.List.{List, []}
use mathlib.Core.Bool.{Bool, true}
use Prim.Native.Nat.{ℕ}
use lib.Dec.{eqb}
use lib.ListN.{get_or}
use borrow.Author.Tests.{eqb-true}
use Rattle.tables.specs.Table.{class_of, next_of, Classes, Nexts}
use Rattle.tables.proofs.Below.{below, below_each}

-- the entry at the byte b is its class
abbrev pub class_test : List ℕ → ℕ → Bool
class_test t b = eqb (get_or t b 0) (class_of b)

pub classes_tested : (t : List ℕ) → below (class_test t) 256 ≡ true → Classes t
classes_tested t all = record {
  class = λ b low. eqb-true (get_or t b 0) (class_of b) (below_each (class_test t) 256 all b low);
}

-- the entry of the state s at the class c is the next state; and so in the whole row
abbrev pub next_test : List (List ℕ) → ℕ → ℕ → Bool
next_test u s c = eqb (get_or (get_or u s []) c 0) (next_of s c)

abbrev pub row_test : List (List ℕ) → ℕ → Bool
row_test u s = below (next_test u s) 17

pub nexts_tested : (u : List (List ℕ)) → below (row_test u) 16 ≡ true → Nexts u
nexts_tested u all = record {
  next = λ s c low under. eqb-true (get_or (get_or u s []) c 0) (next_of s c)
      (below_each (next_test u s) 17 (below_each (row_test u) 16 all s low) c under);
}
