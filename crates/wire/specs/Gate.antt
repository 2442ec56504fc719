-- A value for each gate.
--   gate_values bytes n   the array bytes, a value for each gate, and the count of those that are valid: n, at most 9
use Rattle.std.specs.Prelude.{List, ℕ, min}
use Rattle.wire.specs.declared.GateValues.{GateValues}

-- "the array and its valid count, at most 9"
abbrev pub gate_values : List ℕ → ℕ → GateValues
gate_values bytes n = record { bytes = bytes; count = min n 9 }
