-- The engineering block of a report: `max_moving_gate`, `max_stationary_gate` (each 0 to 8), that many plus one
-- energies of each, then reserved bytes.
--   reserved b             the bytes of the block b after its energies, which document 01 calls reserved
--   extra_max               where `extra_len` stops
--   extra_count s           `extra_len` of the reserved bytes s: how many they are, at most extra_max
--   engineering_of b        what the block b is read as, if it fits
--   no_engineering          every field 0
--   engineering_if flag b   what the block b is read as; every field 0 if the flag is off
--   checked_block b         the answer to the block b: what it is read as; or that R8 fails
--   extra_bytes e           the reserved bytes that were kept, with their valid count, at most 8
--   extra_at e i            reserved byte i, or none
use Rattle.std.specs.Prelude.{List, Bool, cond, ℕ, ◌+◌, min, ltb, length, get_or, take, drop, replicate}
use Rattle.std.specs.Prelude.{Some, None, Ok, Err}
use Rattle.std.specs.declared.option.Option.{Option}
use Rattle.std.specs.declared.result.Result.{Result}
use Rattle.refusal.specs.declared.Check.{Check}
use Rattle.refusal.specs.declared.Check.TheVariants.{R8}
use Rattle.engineering.specs.Gates.{moving_gates_in, stationary_gates_in, gates_fit}
use Rattle.wire.specs.Prefix.{padded}
use Rattle.engineering.specs.declared.Engineering.{Engineering}
use Rattle.engineering.specs.declared.ExtraBytes.{ExtraBytes}

abbrev pub reserved : List ℕ → List ℕ
reserved b = drop (2 + moving_gates_in b + stationary_gates_in b) b

-- "`extra_len` counts all of them and stops at 255"
abbrev pub extra_max : ℕ
extra_max = 255

abbrev pub extra_count : List ℕ → ℕ
extra_count s = min (length s) extra_max

-- "the first eight are kept"
unfoldable pub engineering_of : List ℕ → Engineering
engineering_of b = record {
  moving_gates = moving_gates_in b;
  stationary_gates = stationary_gates_in b;
  moving_energy = padded 9 (take (moving_gates_in b) (drop 2 b));
  stationary_energy = padded 9 (take (stationary_gates_in b) (drop (2 + moving_gates_in b) b));
  extra = padded 8 (reserved b);
  extra_len = extra_count (reserved b);
}

abbrev pub no_engineering : Engineering
no_engineering = record {
  moving_gates = 0;
  stationary_gates = 0;
  moving_energy = replicate 9 0;
  stationary_energy = replicate 9 0;
  extra = replicate 8 0;
  extra_len = 0;
}

-- "with the flag off, each per-gate field is 0"
abbrev pub engineering_if : Bool → List ℕ → Engineering
engineering_if flag b = cond flag (engineering_of b) no_engineering

abbrev pub checked_block : List ℕ → Result Engineering Check
checked_block b = cond (gates_fit b) (Ok (engineering_of b)) (Err R8)

abbrev pub extra_bytes : Engineering → ExtraBytes
extra_bytes e = record { bytes = e.extra; count = min e.extra_len 8 }

-- "`light` and `out_pin` are reserved bytes 0 and 1, or none"
unfoldable pub extra_at : Engineering → ℕ → Option ℕ
extra_at e i = cond (ltb i (extra_bytes e).count) (Some (get_or e.extra i 0)) None
