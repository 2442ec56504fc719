-- `parser::Parser::new` meets its contract: the parser is `fresh`, demand 3 holds from it, and 53 bytes are not
-- enough. Assumes nothing.
use mathlib.Core.Path.{refl}
use Rattle.parser.proofs.Demand.{fresh_claims}
use Rattle.parser.proofs.Sooner.{too_soon}
use Rattle.parser.proofs.Parser.new.Goals as goal

pub returns : goal.returns
returns c =
    let x = fresh_claims in
    rw c.hunting.ensures.made (record {
      made = refl;
      fulfilled = x.0;
      accounted = x.1.0;
      determined = x.1.1;
      too_soon = too_soon;
    })
