-- `stream::framing_claims` pins what Begins proves. Assumes nothing.
use Rattle.stream.specs.Claims.{WholeFramed, StrayBytes}
use Rattle.stream.proofs.Begins.{whole_framed, stray_bytes}
use Rattle.stream.proofs.framing_claims.Goals as goal

pub returns : goal.returns
unfolding WholeFramed StrayBytes
returns c = record { framed = whole_framed; stray = stray_bytes }
