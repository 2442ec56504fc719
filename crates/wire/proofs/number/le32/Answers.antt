-- `wire::le32` meets its contract: the number is there if both halves are, and missing if one is. Assumes nothing.
use mathlib.Core.Path.{sym, ◌∙◌}
use native.Mathlib.Omega.{arith}
use Rattle.wire.proofs.Numbers.{read_some, first_missing, second_missing, halves_there}
use Rattle.wire.proofs.number.le32.Goals as goal

pub returns-in_err-low : goal.returns-in_err-low
returns-in_err-low c = record { read = c.from_residual.ensures ∙ sym (first_missing 2 _ _ (sym c.in_err-low.ensures.read)) }

pub overflow_add-at : goal.overflow_add-at
overflow_add-at c = let low = read_some 2 _ _ (sym c.in_ok-low.ensures.read) in omega arith

pub returns-in_err-high : goal.returns-in_err-high
returns-in_err-high c = record { read = c.from_residual-in_err-high.ensures ∙ sym (second_missing 2 _ _ (sym c.in_err-high.ensures.read)) }

pub returns : goal.returns
returns c = record { read = sym (halves_there 2 _ _ _ _ (sym c.in_ok-low.ensures.read) (sym c.in_ok-high.ensures.read)) }
