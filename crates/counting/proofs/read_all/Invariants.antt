-- `counting::read_all` meets its contract. The loop's invariant is that some bytes, fed to a fresh parser, leave
-- this one; each turn feeds more.
use Rattle.parser.specs.Feed.{fresh}
use Rattle.parser.specs.Claims.{FromHere}
use Rattle.counting.specs.Reached.{Reached}
use Rattle.counting.proofs.read_all.Given as goal

abbrev pub invariant-loop : goal.invariant-loop
invariant-loop g l = Reached fresh l.at × FromHere fresh
