-- `load_writer::Draws::nine` meets its contract. The loop's invariant: the first bytes are drawn. Assumes nothing.
use Rattle.std.proofs.Common.{◌≡◌, take}
use Rattle.load_writer.specs.Load.{after, drawn}
use Rattle.load_writer.proofs.draws.Draws.nine.Given as goal

abbrev pub invariant-loop-byte : goal.invariant-loop-byte
invariant-loop-byte l = record {
  bytes : take l.byte-index l.byte-items ≡ drawn l.byte-index l.fn.self;
  holds : l.self ≡ after l.byte-index l.fn.self;
}
