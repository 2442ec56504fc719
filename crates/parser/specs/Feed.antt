-- What the calls do to a parser: a byte fed, a slice fed, a reset.
--   no_stats                every counter 0
--   fresh                  a parser that has taken nothing: every byte of the buffer and every number 0
--   put buf c st           the parser with the buffer buf, the scan c and the counters st
--   feed_of limit p b       the parser p after the byte b, and the answer; feed_slice_of limit p bs, after the slice bs
--   reset_of p              the parser p after a reset
--   unfinished_of limit p   the length of the frame in progress
-- A scan out of range is handled "as if reset came first". Document 01 leaves two things free: here a byte leaves 0 in
-- the fields without use in a state, and changes a byte of the buffer only where a data byte is stored.
use Rattle.std.specs.Prelude.{List, ℕ, replicate}
use Rattle.std.specs.declared.option.Option.{Option}
use Rattle.scan.specs.Scan.{hunting, unfinished_by}
use Rattle.scan.specs.declared.Scan.{Scan}
use Rattle.scan.specs.declared.stats.Stats.{Stats}
use Rattle.parser.specs.declared.Parser.{Parser}
use Rattle.parser.specs.declared.Fed.{Fed}
use Rattle.feed.specs.declared.feeding.Taken.{Taken}
use Rattle.frame.specs.declared.Frame.{Frame}
use Rattle.feed.specs.Moved.{buf_of, moved_of, slice_buf_of, slice_moved_of}

abbrev pub no_stats : Stats
no_stats = record { frames = 0; resyncs = 0; dropped = 0; malformed = 0 }

abbrev pub fresh : Parser
fresh = record { buf = replicate 64 0; scan = hunting; stats = no_stats }

abbrev pub put : List ℕ → Scan → Stats → Parser
put buf c st = record { buf = buf; scan = c; stats = st }

unfoldable pub feed_of : ℕ → Parser → ℕ → Fed (Option Frame)
feed_of limit p b =
    let m = moved_of limit p.scan p.stats p.buf b in
    record { parser = put (buf_of limit p.scan p.buf b) m.scan m.stats; answer = m.answer }

unfoldable pub feed_slice_of : ℕ → Parser → List ℕ → Fed Taken
feed_slice_of limit p bs =
    let m = slice_moved_of limit p.scan p.stats p.buf bs in
    record { parser = put (slice_buf_of limit p.scan p.stats p.buf bs) m.scan m.stats; answer = m.answer }

-- "`reset` forgets an unfinished frame and keeps the counters"
abbrev pub reset_of : Parser → Parser
reset_of p = put p.buf hunting p.stats

unfoldable pub unfinished_of : ℕ → Parser → ℕ
unfinished_of limit p = unfinished_by limit p.scan
