-- `ack::Ack::parse` meets its contract: the first check that fails is the cause. Assumes nothing.
use Rattle.std.proofs.Common.{rules}
use Rattle.std.specs.Prelude.{Ok}
use Rattle.refusal.proofs.Checks.{causes_told}
use Rattle.ack.specs.Ack.{ack_of, checked_ack}
use Rattle.ack.proofs.Ack.parse.Goals as goal

pub returns-in_err-checked_ack-clause-causes : goal.returns-in_err-checked_ack-clause-causes
unfolding checked_ack
returns-in_err-checked_ack-clause-causes c =
    causes_told _ _ _ (ack_of c.args.data.now) c.from_residual.result (search rules)

pub returns-clause-causes : goal.returns-clause-causes
unfolding checked_ack
returns-clause-causes c =
    causes_told _ _ _ (ack_of c.args.data.now) (Ok c.in_ok-checked_ack.field-0) (search rules)
