-- `ld2450_parser::Parser::feed` meets its contract: the parser's type says what demand 3 asks of it. Assumes nothing.
use native.Mathlib.Omega.{arith}
use Rattle.ld2450_parser.proofs.Known.{known_any}
use Rattle.ld2450_parser.proofs.Parser.feed.Goals as goal

pub returns-clause-any : goal.returns-clause-any
returns-clause-any c = known_any c.args.self.now (omega arith) (omega arith) (omega arith) (omega arith)
