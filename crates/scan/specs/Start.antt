-- What the counters count, and a byte tried as the first of a header.
--   frame_ended k n   that a frame of the family k with n data bytes ended
--   continued c st   the step that leaves the scan c and the counters st, and ends no frame
--   dropping st n    the counters after n more bytes were dropped
--   abandoned st n   the counters after a broken start of n bytes
--   start_as st m     the step of a byte that begins the header of the family m, or none
--   start_of st b     the step of the byte b, tried as the first of a header
--   counted b st     the counters after a whole frame; b says whether it decodes
--   taking_of s n     the step s as the outcome of n bytes, its byte the last
use Rattle.std.specs.Prelude.{Bool, true, false, ℕ, Some, None}
use Rattle.std.specs.declared.option.Option.{Option}
use Rattle.wire.specs.Counter.{bumped}
use Rattle.wire.specs.Family.{starting_with}
use Rattle.wire.specs.declared.Kind.{Kind}
use Rattle.scan.specs.Scan.{at, hunting}
use Rattle.scan.specs.declared.State.TheVariants.{Header}
use Rattle.scan.specs.declared.Scan.{Scan}
use Rattle.scan.specs.declared.stats.Stats.{Stats}
use Rattle.scan.specs.declared.stats.Ended.{Ended}
use Rattle.scan.specs.declared.stats.Stepped.{Stepped}
use Rattle.scan.specs.declared.stats.Scanned.{Scanned}

abbrev pub frame_ended : Kind → ℕ → Option Ended
frame_ended k n = Some (record { kind = k; len = n })

abbrev pub continued : Scan → Stats → Stepped
continued c st = record { scan = c; stats = st; ended = None }

abbrev pub dropping : Stats → ℕ → Stats
dropping st n = record {
  frames = st.frames;
  resyncs = st.resyncs;
  dropped = bumped st.dropped n;
  malformed = st.malformed;
}

-- "`resyncs` counts broken starts. `dropped` counts stray bytes and the bytes of broken starts."
unfoldable pub abandoned : Stats → ℕ → Stats
abandoned st n = record {
  frames = st.frames;
  resyncs = bumped st.resyncs 1;
  dropped = bumped st.dropped n;
  malformed = st.malformed;
}

abbrev pub start_as : Stats → Option Kind → Stepped
start_as st (Some k) = continued (at Header k 1 0 0) st
start_as st None = continued hunting (dropping st 1)

unfoldable pub start_of : Stats → ℕ → Stepped
start_of st b = start_as st (starting_with b)

-- "`frames` counts whole frames that decode, `malformed` those that don't"
abbrev pub counted : Bool → Stats → Stats
counted true st = record {
  frames = bumped st.frames 1;
  resyncs = st.resyncs;
  dropped = st.dropped;
  malformed = st.malformed;
}
counted false st = record {
  frames = st.frames;
  resyncs = st.resyncs;
  dropped = st.dropped;
  malformed = bumped st.malformed 1;
}

abbrev pub taking_of : Stepped → ℕ → Scanned
taking_of s n = record { scan = s.scan; stats = s.stats; ended = s.ended; taken = n }
