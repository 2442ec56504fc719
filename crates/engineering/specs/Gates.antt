-- The front of an engineering block, `max_moving_gate` and `max_stationary_gate`. A gate count is one more.
--   moving_gates_in b, stationary_gates_in b   how many energies of each the block b announces
--   gates_fit b   whether the block b has both bytes, in range, and all the energies that they announce
--   gates_of b    the two gate counts of the block b
--   gates_at b    the same, if the block fits
use Rattle.std.specs.Prelude.{List, Bool, cond, ◌&&◌, ℕ, ◌+◌, leb, length, get_or, Some, None}
use Rattle.std.specs.declared.option.Option.{Option}
use Rattle.engineering.specs.declared.gates.Gates.{Gates}

-- "that many plus one energies of each"
abbrev pub moving_gates_in : List ℕ → ℕ
moving_gates_in b = get_or b 0 0 + 1

abbrev pub stationary_gates_in : List ℕ → ℕ
stationary_gates_in b = get_or b 1 0 + 1

-- "each 0 to 8", so at most nine energies
unfoldable pub gates_fit : List ℕ → Bool
gates_fit b = leb 2 (length b) && (leb (moving_gates_in b) 9 && (leb (stationary_gates_in b) 9
    && leb (2 + moving_gates_in b + stationary_gates_in b) (length b)))

abbrev pub gates_of : List ℕ → Gates
gates_of b = record { moving = moving_gates_in b; stationary = stationary_gates_in b }

abbrev pub gates_at : List ℕ → Option Gates
gates_at b = cond (gates_fit b) (Some (gates_of b)) None
