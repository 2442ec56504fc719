-- The line that the counting program prints.
--   counts_of p   the numbers of the parser p: "frames, resyncs, dropped, malformed and unfinished length"
use Rattle.stream.specs.Length.{link_limit}
use Rattle.parser.specs.Feed.{unfinished_of}
use Rattle.parser.specs.declared.Parser.{Parser}
use Rattle.counting.specs.declared.Counts.{Counts}

abbrev pub counts_of : Parser → Counts
counts_of p = record {
  frames = p.stats.frames;
  resyncs = p.stats.resyncs;
  dropped = p.stats.dropped;
  malformed = p.stats.malformed;
  unfinished = unfinished_of link_limit p;
}
