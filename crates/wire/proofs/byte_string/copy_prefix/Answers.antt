-- `wire::copy_prefix` meets its contract. Assumes nothing.
use mathlib.Core.Path.{◌∙◌}
use Rattle.wire.proofs.Prefixes.{pasted_front}
use Rattle.wire.proofs.byte_string.copy_prefix.Goals as goal

pub returns : goal.returns
returns c = record { copied = c.copy_at.ensures.copied ∙ pasted_front _ _ }
