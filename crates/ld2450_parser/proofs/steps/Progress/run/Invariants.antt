-- `ld2450_parser::Progress::run` meets its contract. The loop's invariant is `Left`: the run of the remaining bytes has
-- the outcome of the run of all. Assumes nothing.
use Rattle.ld2450_parser.specs.Feed.{put, run_of}
use Rattle.ld2450_parser.proofs.Runs.{Left}
use Rattle.ld2450_parser.proofs.steps.Progress.run.Given as goal

abbrev pub invariant-loop-i : goal.invariant-loop-i
invariant-loop-i l =
    let begun = run_of (put l.initial.buf l.initial.self.at l.initial.self.stats) l.bytes in
    Left begun (put l.buf l.self.at l.self.stats) l.bytes l.i
