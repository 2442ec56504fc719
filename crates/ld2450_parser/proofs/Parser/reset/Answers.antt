-- `ld2450_parser::Parser::reset` meets its contract: the parser's type says what demand 3 asks of it, so that the
-- claims hold after a reset of any parser. Assumes nothing.
use native.Mathlib.Omega.{arith}
use mathlib.Core.Path.{refl}
use Rattle.ld2450_parser.proofs.Known.{known_reset}
use Rattle.ld2450_parser.proofs.Parser.reset.Goals as goal

pub returns : goal.returns
returns c =
    let x = known_reset c.args.self.now (omega arith) (omega arith) (omega arith) (omega arith) in
    record { reset = refl; fulfilled = x.fulfilled; determined = x.determined; first = x.first }
