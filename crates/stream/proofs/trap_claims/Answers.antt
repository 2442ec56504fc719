-- `stream::trap_claims` pins what Traps proves. Assumes nothing.
use Rattle.stream.specs.Claims.{BadLength, BrokenTail}
use Rattle.stream.proofs.Traps.{bad_length, broken_tail}
use Rattle.stream.proofs.trap_claims.Goals as goal

pub returns : goal.returns
unfolding BadLength BrokenTail
returns c = record { bad_length = bad_length; broken_tail = broken_tail }
