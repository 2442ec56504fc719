-- What a call delivers, and what the counters count: document 01, "The division of a stream".
--   Answer            a frame, if there is one, and the bytes of its payload
--   decodes f         whether the whole frame f passes every check: document 01's decodes
--   counted_in i x    the frame x; an acknowledgement's payload starts at place i
--   payload_of o s    the bytes of s where the frame in o has its payload, none if there is no acknowledgement
--   delivered f       the answer that delivers the whole frame f; its payload's start is counted in the parser's buffer
--   nothing           the answer "no frame"
--   Counter           the four counters
--   adds c p          what the piece p adds to the counter c
use Rattle.std.specs.Prelude.{List, [], Bool, not, ℕ, take, drop, option_map, Some, None, is_ok}
use Rattle.std.specs.declared.option.Option.{Option}
use Rattle.std.specs.Result.{result_ok}
use Rattle.frame.specs.Frame.{starting_at, checked_frame}
use Rattle.frame.specs.declared.Frame.{Frame}
use Rattle.frame.specs.declared.Frame.TheVariants as Is
use Rattle.framing.specs.Piece.{Piece}
use Rattle.framing.specs.Tally.{resynced, lost, passed}

abbrev pub Answer : Type 0
Answer = Option Frame × List ℕ

unfoldable pub decodes : List ℕ → Bool
decodes f = is_ok (checked_frame f)

-- "but with a payload's start counted in the parser's buffer"
abbrev pub counted_in : ℕ → Frame → Frame
counted_in i (Is.Report r) = Is.Report r
counted_in i (Is.Ack a) = Is.Ack (starting_at i a)

abbrev pub payload_of : Option Frame → List ℕ → List ℕ
payload_of None s = []
payload_of (Some (Is.Report r)) s = []
payload_of (Some (Is.Ack a)) s = take a.payload.len (drop a.payload.start s)

-- "the frame that points 2 to 4 of the link read from the whole frame's bytes"; in the buffer a payload starts at 4
unfoldable pub delivered : List ℕ → Answer
delivered f = let x = result_ok (checked_frame f) in (option_map (counted_in 4) x, payload_of x f)

abbrev pub nothing : Answer
nothing = (None, [])

pub data Counter : Type 0 where
  frames resyncs dropped malformed : Counter

-- "`resyncs` counts broken starts. `dropped` counts stray bytes and the bytes of broken starts. `frames` counts whole
-- frames that decode, `malformed` those that don't."
abbrev pub adds : Counter → Piece → ℕ
adds frames p = passed decodes p
adds resyncs p = resynced p
adds dropped p = lost p
adds malformed p = passed (λ f. not (decodes f)) p
