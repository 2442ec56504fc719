-- `replay_io::line::Buffer::literal` meets its contract. The loop's invariant: once the bytes that are left are put,
-- all are.
use mathlib.Core.Path.{◌≡◌}
use lib.ListN.{drop}
use Rattle.replay_io.specs.Line.{put_all}
use Rattle.replay_io.proofs.line.Buffer.literal.Given as goal

abbrev pub invariant-loop-byte : goal.invariant-loop-byte
invariant-loop-byte g l = put_all l.self (drop l.byte-index l.bytes) ≡ put_all l.fn.self l.bytes
