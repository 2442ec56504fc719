-- `wire::family_of` meets its contract, by the answer of `bytes_eq` for each header. Assumes nothing.
use mathlib.Core.Path.{sym}
use Rattle.wire.proofs.Conditions.{answer_told}
use Rattle.wire.proofs.Families.{header_report, header_command, header_none}
use Rattle.wire.proofs.kinds.family_of.Goals as goal

pub returns-then-bytes_eq : goal.returns-then-bytes_eq
returns-then-bytes_eq c = record { found = sym (header_report _ (search answer_told)) }

pub returns-then-bytes_eq-2 : goal.returns-then-bytes_eq-2
returns-then-bytes_eq-2 c = record { found = sym (header_command _ (search answer_told) (search answer_told)) }

pub returns : goal.returns
returns c = record { found = sym (header_none _ (search answer_told) (search answer_told)) }
