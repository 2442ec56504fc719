-- The nine basic bytes of a report.
--   basic_of b   the fields in the first nine bytes of b
--   basic_at b   the same, if b has nine bytes
use Rattle.std.specs.Prelude.{List, cond, ℕ, leb, length, get_or, take, drop, Some, None}
use Rattle.std.specs.declared.option.Option.{Option}
use Rattle.wire.specs.Number.{little}
use Rattle.report.specs.declared.basic.Basic.{Basic}

-- "nine bytes (state; moving distance, two bytes; energy; stationary distance, two; energy; detection distance, two)"
abbrev pub basic_of : List ℕ → Basic
basic_of b = record {
  state = get_or b 0 0;
  moving_distance_cm = little (take 2 (drop 1 b));
  moving_energy = get_or b 3 0;
  stationary_distance_cm = little (take 2 (drop 4 b));
  stationary_energy = get_or b 6 0;
  detection_distance_cm = little (take 2 (drop 7 b));
}

abbrev pub basic_at : List ℕ → Option Basic
basic_at b = cond (leb 9 (length b)) (Some (basic_of b)) None
