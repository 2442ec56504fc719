-- The parser as an engine (crate `engine`), over the largest length `limit`.
--   with_payload o p     the frame in o, if there is one, with the bytes of its payload in the buffer of the parser p
--   counter_in k st      the counter k of the counters st
--   pending_by limit p   the pending bytes of the parser p, none if a field is out of range
--   engine limit        the calls, the counters, and the pending string
use Rattle.std.specs.Prelude.{List, ℕ}
use Rattle.std.specs.declared.option.Option.{Option}
use Rattle.wire.specs.Counter.{counter_max}
use Rattle.frame.specs.declared.Frame.{Frame}
use Rattle.engine.specs.Engine.{Engine}
use Rattle.stream.specs.Deliver.{Answer, payload_of, Counter, frames, resyncs, dropped, malformed}
use Rattle.scan.specs.Scan.{or_reset}
use Rattle.scan.specs.Stands.{pending_of}
use Rattle.parser.specs.Feed.{feed_of, feed_slice_of, reset_of, unfinished_of}
use Rattle.scan.specs.declared.stats.Stats.{Stats}
use Rattle.parser.specs.declared.Parser.{Parser}

abbrev pub with_payload : Option Frame → Parser → Answer
with_payload o p = (o, payload_of o p.buf)

abbrev pub counter_in : Counter → Stats → ℕ
counter_in frames st = st.frames
counter_in resyncs st = st.resyncs
counter_in dropped st = st.dropped
counter_in malformed st = st.malformed

abbrev pub pending_by : ℕ → Parser → List ℕ
pending_by limit p = pending_of (or_reset limit p.scan) p.buf

abbrev pub engine : ℕ → Engine Parser Answer Counter
engine limit = record {
  feed = λ p b. ((feed_of limit p b).parser, with_payload (feed_of limit p b).answer (feed_of limit p b).parser);
  slice = λ p bs. record {
    state = (feed_slice_of limit p bs).parser;
    told = (feed_slice_of limit p bs).answer.count;
    answer = with_payload (feed_slice_of limit p bs).answer.frame (feed_slice_of limit p bs).parser;
  };
  reset = reset_of;
  counter = λ k p. counter_in k p.stats;
  max = counter_max;
  unfinished = unfinished_of limit;
  pending = pending_by limit;
}
