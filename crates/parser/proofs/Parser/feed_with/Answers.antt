-- `parser::Parser::feed_with`: demand 3 holds from any parser, by what its type says of it. Assumes nothing.
use native.Mathlib.Omega.{arith}
use Rattle.parser.proofs.Known.{known_any}
use Rattle.parser.proofs.Parser.feed_with.Goals as goal

pub returns-clause-any : goal.returns-clause-any
returns-clause-any g c = known_any c.args.self.now (omega arith) (omega arith) (omega arith) (omega arith) (omega arith)
