-- `wire::byte_at` meets its contract, by the laws of a number of one byte. Assumes nothing.
use mathlib.Core.Path.{◌∙◌}
use Rattle.wire.proofs.Numbers.{byte_got}
use Rattle.wire.proofs.number.byte_at.Goals as goal

pub returns : goal.returns
returns c = record { read = c.copied.ensures ∙ byte_got _ _ _ c.get.ensures.lookup }
