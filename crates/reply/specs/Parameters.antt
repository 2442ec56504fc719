-- The reply `parameters`: document 01, point 3.
--   gates_in p              how many gates the payload p announces
--   stationary_at p, seconds_at p   where its stationary sensitivities and its seconds start
--   parameters_fits p       whether the payload p is readable
--   parameters_of p         the value that the payload p holds
--   parameters_reply        the reply
--   no_parameters           every field 0, which is returned beside a refusal
--   valid_gates v           how many gates the value v has, at most 9
use Rattle.std.specs.Prelude.{List, Bool, ◌&&◌, ℕ, ◌+◌, min, leb, eqb, length, get_or, take, drop, replicate}
use Rattle.wire.specs.Number.{little}
use Rattle.wire.specs.Prefix.{padded}
use Rattle.reply.specs.Reply.{Reply}
use Rattle.reply.specs.declared.parameters.Parameters.{Parameters}

-- "`parameters` wants AA, `max_gate` 0 to 8, `max_moving_gate` and `max_stationary_gate` (not range-checked),
-- `max_gate` plus one moving sensitivities, as many stationary, and the seconds, two bytes"
abbrev pub gates_in : List ℕ → ℕ
gates_in p = get_or p 1 0 + 1

abbrev pub stationary_at : List ℕ → ℕ
stationary_at p = 4 + gates_in p

abbrev pub seconds_at : List ℕ → ℕ
seconds_at p = stationary_at p + gates_in p

-- If the payload has the seconds, it has all that comes before them.
abbrev pub parameters_fits : List ℕ → Bool
parameters_fits p = leb (seconds_at p + 2) (length p) && (eqb (get_or p 0 0) 0xAA && leb (get_or p 1 0) 8)

abbrev pub parameters_of : List ℕ → Parameters
parameters_of p = record {
  max_gate = get_or p 1 0;
  max_moving_gate = get_or p 2 0;
  max_stationary_gate = get_or p 3 0;
  moving_sensitivity = padded 9 (take (gates_in p) (drop 4 p));
  stationary_sensitivity = padded 9 (take (gates_in p) (drop (stationary_at p) p));
  no_one_secs = little (take 2 (drop (seconds_at p) p));
}

abbrev pub parameters_reply : Reply Parameters
parameters_reply = record { word = 0x0061; readable = parameters_fits; value = parameters_of }

abbrev pub no_parameters : Parameters
no_parameters = record {
  max_gate = 0;
  max_moving_gate = 0;
  max_stationary_gate = 0;
  moving_sensitivity = replicate 9 0;
  stationary_sensitivity = replicate 9 0;
  no_one_secs = 0;
}

-- "the array and its valid count, at most 9"
abbrev pub valid_gates : Parameters → ℕ
valid_gates v = min (v.max_gate + 1) 9
