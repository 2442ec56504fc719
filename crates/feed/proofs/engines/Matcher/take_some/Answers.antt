-- `feed::Matcher::take_some` meets its contract: one byte's step is a part. Assumes nothing.
use native.Mathlib.Omega.{arith}
use Rattle.step.proofs.Runs.{step_partial}
use Rattle.feed.proofs.engines.Matcher.take_some.Goals as goal

pub returns : goal.returns
returns g c =
    let made = c.take.ensures.stepped in
    record {
      partial = rw c.taking.ensures.scanned (step_partial _ _ _ _ _ c.args.from c.take.result _ c.requires.1
          made.0 made.1 c.requires.0 (omega (arith, c.type_inv.bytes c.args.from)));
    }
