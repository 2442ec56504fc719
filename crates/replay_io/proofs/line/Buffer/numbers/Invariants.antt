-- `replay_io::line::Buffer::numbers` meets its contract. The loop's invariant: once the numbers that are left are put,
-- all are.
use mathlib.Core.Path.{◌≡◌}
use mathlib.Core.List.{map}
use lib.ListN.{drop}
use Rattle.replay_io.specs.Line.{put_all, numbers_of}
use Rattle.replay_io.proofs.line.Buffer.numbers.Given as goal

abbrev pub invariant-loop-value : goal.invariant-loop-value
invariant-loop-value g l =
    put_all l.self (numbers_of (map g.N.Number.value (drop l.value-index l.values)))
    ≡ put_all l.fn.self (numbers_of (map g.N.Number.value l.values))
