-- `parser::Parser::reset`: demand 3 holds from what a reset leaves, by what the parser's type says of it. Assumes nothing.
use mathlib.Core.Path.{refl}
use native.Mathlib.Omega.{arith}
use Rattle.parser.proofs.Known.{known_reset}
use Rattle.parser.proofs.Parser.reset.Goals as goal

pub returns : goal.returns
returns c =
    let x = known_reset c.args.self.now (omega arith) (omega arith) (omega arith) (omega arith) (omega arith) in
    rw c.hunting-self.ensures.made (record { reset = refl; fulfilled = x.fulfilled; determined = x.determined; first = x.first })
