-- The frame of a report: "Report data are `data_type`, AA, nine bytes .. an engineering block, 55, 00."
--   type_of flag          the type: 01 with an engineering block, 02 without
--   basic_bytes r         the nine basic bytes of the report r
--   front_of r            type, AA and the nine basic bytes
--   highest_gates e       `max_moving_gate` and `max_stationary_gate`
--   moving_energies e, stationary_energies e   the energies of each
--   reserved_bytes e      the reserved bytes
--   engineering_block e   the engineering block
--   block_of r            the engineering block of the report r, nothing if its flag is off
--   trailer              55, 00
--   report_data r         the data
--   report_frame r        the frame
use Rattle.std.specs.Prelude.{List, [], ◌∷◌, ◌++◌, Bool, cond, ℕ, ◌-◌, take}
use Rattle.wire.specs.Number.{le_bytes}
use Rattle.wire.specs.Family.{framed}
use Rattle.wire.specs.declared.Kind.TheVariants as Family
use Rattle.target_state.specs.State.{byte_of}
use Rattle.engineering.specs.declared.Engineering.{Engineering}
use Rattle.report.specs.declared.Report.{Report}

-- "R6 `data_type` is 01 or 02 .. R7 for 02, nothing after the nine; R8 for 01, the block fits"
abbrev pub type_of : Bool → ℕ
type_of flag = cond flag 0x01 0x02

-- "nine bytes (state; moving distance, two bytes; energy; stationary distance, two; energy; detection distance, two)"
abbrev pub basic_bytes : Report → List ℕ
basic_bytes r =
    byte_of r.state
    ∷ (le_bytes 2 r.moving_distance_cm ++ (r.moving_energy
    ∷ (le_bytes 2 r.stationary_distance_cm ++ (r.stationary_energy
    ∷ le_bytes 2 r.detection_distance_cm))))

unfoldable pub front_of : Report → List ℕ
front_of r = type_of r.has_engineering ∷ 0xAA ∷ basic_bytes r

-- "The block is `max_moving_gate`, `max_stationary_gate` .. that many plus one energies of each, then reserved bytes"
abbrev pub highest_gates : Engineering → List ℕ
highest_gates e = (e.moving_gates - 1) ∷ (e.stationary_gates - 1) ∷ []

abbrev pub moving_energies : Engineering → List ℕ
moving_energies e = take e.moving_gates e.moving_energy

abbrev pub stationary_energies : Engineering → List ℕ
stationary_energies e = take e.stationary_gates e.stationary_energy

abbrev pub reserved_bytes : Engineering → List ℕ
reserved_bytes e = take e.extra_len e.extra

unfoldable pub engineering_block : Engineering → List ℕ
engineering_block e = highest_gates e ++ (moving_energies e ++ (stationary_energies e ++ reserved_bytes e))

abbrev pub block_of : Report → List ℕ
block_of r = cond r.has_engineering (engineering_block r.engineering) []

abbrev pub trailer : List ℕ
trailer = 0x55 ∷ 0x00 ∷ []

unfoldable pub report_data : Report → List ℕ
report_data r = front_of r ++ (block_of r ++ trailer)

abbrev pub report_frame : Report → List ℕ
report_frame r = framed Family.Report (report_data r)
