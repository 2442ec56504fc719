-- `wire::copy_at` meets its contract. Assumes nothing.
use native.Mathlib.Omega.{arith}
use Rattle.wire.proofs.Prefixes.{pasted_nil, pasted_copied}
use Rattle.wire.proofs.byte_string.copy_at.Goals as goal

pub returns-then-dst-at : goal.returns-then-dst-at
returns-then-dst-at c = record { copied = pasted_nil _ _ _ (omega arith) }

pub returns : goal.returns
returns c = record { copied = rw c.copy_from_slice.ensures.after (pasted_copied _ _ _ _ c.min-count.ensures) }
