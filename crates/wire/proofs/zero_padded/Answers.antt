-- `wire::zero_padded` meets its contract. Assumes nothing.
use Rattle.wire.proofs.Prefixes.{padded_copied}
use Rattle.wire.proofs.zero_padded.Goals as goal

pub returns : goal.returns
returns g c = record { copied = rw c.copy_from_slice.ensures.after (padded_copied g.row.N _ _ c.min-count.ensures) }
