-- The parser as an engine (crate `engine`).
--   counter_in k st   the counter k of the counters st
--   pending_by p      the pending bytes of the parser p, none if its place is out of range
--   engine           the calls, the counters, and the pending string
use Rattle.std.specs.Prelude.{List, ℕ, take}
use Rattle.wire.specs.Counter.{counter_max}
use Rattle.engine.specs.Engine.{Engine}
use Rattle.ld2450.specs.Frame.{framed}
use Rattle.ld2450_parser.specs.Stream.{Answer, Counter, frames, resyncs, dropped}
use Rattle.ld2450_parser.specs.Feed.{or_reset, feed_of, feed_slice_of, reset_of, unfinished_of}
use Rattle.ld2450_parser.specs.declared.Stats.{Stats}
use Rattle.ld2450_parser.specs.declared.Parser.{Parser}

abbrev pub counter_in : Counter → Stats → ℕ
counter_in frames st = st.frames
counter_in resyncs st = st.resyncs
counter_in dropped st = st.dropped

-- The first bytes of a frame, up to the place; its target bytes are in the buffer.
abbrev pub pending_by : Parser → List ℕ
pending_by p = take (or_reset p.at) (framed p.buf)

abbrev pub engine : Engine Parser Answer Counter
engine = record {
  feed = λ p b. ((feed_of p b).parser, (feed_of p b).answer);
  slice = λ p bs. record {
    state = (feed_slice_of p bs).parser;
    told = (feed_slice_of p bs).answer.count;
    answer = (feed_slice_of p bs).answer.frame;
  };
  reset = reset_of;
  counter = λ k p. counter_in k p.stats;
  max = counter_max;
  unfinished = unfinished_of;
  pending = pending_by;
}
