-- `ld2450_parser::Parser::new` meets its contract: the parser is `fresh`, and demand 3 holds from it. Assumes nothing.
use mathlib.Core.Path.{refl}
use Rattle.ld2450_parser.proofs.Demand.{fresh_claims}
use Rattle.ld2450_parser.proofs.Pieces.{shown}
use Rattle.ld2450_parser.proofs.Parser.new.Goals as goal

pub returns : goal.returns
returns c =
    let x = fresh_claims in
    record {
      made = refl;
      fulfilled = x.0;
      accounted = x.1.0;
      determined = x.1.1.0;
      received = x.1.1.1;
      shown = shown;
    }
