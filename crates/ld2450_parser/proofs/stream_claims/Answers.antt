-- The claims about the pieces of the stream hold. Assumes nothing.
use Rattle.ld2450_parser.proofs.Pieces.{delivers_whole, stray_bytes, broken_frames}
use Rattle.ld2450_parser.proofs.stream_claims.Goals as goal

pub returns : goal.returns
returns c = record { whole = delivers_whole; stray = stray_bytes; broken = broken_frames }
