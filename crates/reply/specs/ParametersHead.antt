-- The head of a parameters payload: its first four bytes.
--   head_fits p   whether p has them, the first is AA, and the highest gate is 0 to 8
--   head_of p     the three bytes after the first
--   head_in p     the same, if the head fits
use Rattle.std.specs.Prelude.{List, Bool, cond, ◌&&◌, ℕ, leb, eqb, length, get_or, Some, None}
use Rattle.std.specs.declared.option.Option.{Option}
use Rattle.reply.specs.declared.parameters_head.ParametersHead.{ParametersHead}

-- "`parameters` wants AA, `max_gate` 0 to 8, `max_moving_gate` and `max_stationary_gate` (not range-checked)"
abbrev pub head_fits : List ℕ → Bool
head_fits p = leb 4 (length p) && (eqb (get_or p 0 0) 0xAA && leb (get_or p 1 0) 8)

abbrev pub head_of : List ℕ → ParametersHead
head_of p = record {
  max_gate = get_or p 1 0;
  max_moving_gate = get_or p 2 0;
  max_stationary_gate = get_or p 3 0;
}

abbrev pub head_in : List ℕ → Option ParametersHead
head_in p = cond (head_fits p) (Some (head_of p)) None
