-- Demand 3 for the parser of this crate.
--   did x calls      what the calls did, the first on the parser x, each other on the parser that the one before left
--   left x calls     the parser that they left
--   Demand3 p x      every list of calls that pass bytes fulfils the demand, from the parser x, in which p is pending
--   FromHere x       the demand holds from x with nothing pending, as in a parser that is fresh or just reset
--   Determined p x   the demand leaves no choice: whatever fulfils it, from the same counters, does as x does
--   Stands x p       p is the pending bytes of x, none if a field is out of range
--   FromAny x        whatever the fields of x are, the demand holds from x with its pending bytes; and what follows
--   cut_off_parser           a parser after a report's header and the length 54; short_frame, a frame of 53 bytes
--   TooSoon x        some bytes fed to x leave cut_off_parser; there the frame after short_frame is lost, but a frame after one
--                    of 54 bytes is not
--   Accounted x      from x on, without a reset and while `dropped` is not full, every byte taken is accounted for
--   ResetFirst x y   if a field of x is out of range, x is fed as y is; the resets promise it of y, which they leave
-- Defined elsewhere: Fulfilled in the crate `engine`; open, whole, decodes and delivered in `stream` (Open, Deliver);
-- out of range in `scan` (Stands); the largest length in `stream` (Length); where counters stop in `wire` (Counter).
use Rattle.std.specs.Prelude.{◌≡◌, List, [], ◌∷◌, ◌++◌, ℕ, ◌+◌, ◌<◌, min, length, replicate}
use Rattle.wire.specs.Counter.{counter_max}
use Rattle.wire.specs.Bytes.{Every}
use Rattle.wire.specs.Family.{framed}
use Rattle.wire.specs.declared.Kind.TheVariants.{Report}
use Rattle.stream.specs.Length.{link_limit}
use Rattle.framing.specs.Piece.{Piece}
use Rattle.framing.specs.Division.{Division, EndsAt}
use Rattle.framing.specs.Tally.{sum, in_frames}
use Rattle.engine.specs.Calls.{Call, ByteCall, Goes, feeds, Did, sliced, taken_by}
use Rattle.engine.specs.Engine.{Engine, history, final}
use Rattle.engine.specs.Fulfilled.{deliveries, Fulfilled, Same}
use Rattle.stream.specs.Open.{Open, Whole}
use Rattle.stream.specs.Deliver.{Answer, nothing, Counter}
use Rattle.stream.specs.Protocol.{ld2410}
use Rattle.stream.specs.Recovery.{Clean, Recovered, Recovers, FoundInStretch, Regains, Lost}
use Rattle.scan.specs.Scan.{at}
use Rattle.scan.specs.Stands.{OutOfRange, pending_of}
use Rattle.scan.specs.declared.State.TheVariants.{Data}
use Rattle.parser.specs.Feed.{no_stats, put, feed_of, feed_slice_of, unfinished_of}
use Rattle.parser.specs.Engine.{counter_in, pending_by, engine}
use Rattle.parser.specs.declared.Parser.{Parser}

abbrev pub did : Parser → List Call → List (Did Answer)
did x calls = history (engine link_limit) x calls

abbrev pub left : Parser → List Call → Parser
left x calls = final (engine link_limit) x calls

abbrev pub Demand3 : List ℕ → Parser → Type 0
Demand3 p x = (calls : List Call) → Every ByteCall calls → Fulfilled (ld2410 link_limit) (engine link_limit) p x calls

abbrev pub FromHere : Parser → Type 0
FromHere x = Demand3 [] x

abbrev pub Determined : List ℕ → Parser → Type 0
Determined p x = (E : Engine Parser Answer Counter) (s : Parser) (calls : List Call) → Every ByteCall calls
    → Fulfilled (ld2410 link_limit) E p s calls → E.max ≡ counter_max
    → ((k : Counter) → E.counter k s ≡ counter_in k x.stats) → Same E (engine link_limit) s x calls

pub record Stands (x : Parser) (p : List ℕ) : Type 0 where
  -- out of range it "is handled as if reset came first": nothing is pending
  pub out : OutOfRange link_limit x.scan → p ≡ []
  -- in range they are the bytes of the frame in progress
  pub inside : ¬ OutOfRange link_limit x.scan → p ≡ pending_of x.scan x.buf

pub record FromAny (x : Parser) : Type 0 where
  pub stands : Stands x (pending_by link_limit x)
  pub fulfilled : Demand3 (pending_by link_limit x) x
  pub determined : Determined (pending_by link_limit x) x
  -- the counter of frames counts the frames that were delivered
  pub frames : (calls : List Call) → Every ByteCall calls → (left x calls).stats.frames
      ≡ min (x.stats.frames + length (deliveries (ld2410 link_limit).delivers (did x calls))) counter_max
  -- "an empty slice takes none", and delivers nothing
  pub empty : (calls : List Call) → Every ByteCall calls → (before after : List (Did Answer)) (k : ℕ) (a : Answer)
      → did x calls ≡ before ++ (sliced [] k a ∷ after) → (k ≡ 0) × (a ≡ nothing)
  -- a parser y with the same pending bytes and the same counters as the parser that the calls left goes on as that
  -- parser would
  pub resumed : (calls more : List Call) → Every ByteCall calls → Every ByteCall more
      → (y : Parser) → Demand3 (pending_by link_limit y) y → pending_by link_limit y ≡ pending_by link_limit (left x calls)
      → y.stats ≡ (left x calls).stats → did x (calls ++ more) ≡ did x calls ++ did y more
  -- Request 5: "Suppose the parser is in any state"
  pub recovers : Recovers link_limit (engine link_limit) (pending_by link_limit x) x
  -- "found whole": in the division of the whole stretch too, which may have begun long before that moment
  pub found : FoundInStretch link_limit (engine link_limit) (pending_by link_limit x) x
  -- so of the frames sent 54 or more bytes later those that decode are delivered
  pub regains : Regains link_limit (engine link_limit) x

-- Request 5's other part: "Show too that 53 is not enough." A parser and a frame, as values.
abbrev pub cut_off_parser : Parser
cut_off_parser = put (replicate 64 0) (at Data Report 0 54 0) no_stats

abbrev pub short_frame : List ℕ
short_frame = framed Report (replicate 43 0)

pub record TooSoon (x : Parser) : Type 0 where
  -- these bytes lead to cut_off_parser
  pub reached : left x (feeds (0xF4 ∷ 0xF3 ∷ 0xF2 ∷ 0xF1 ∷ 0x36 ∷ 0x00 ∷ [])) ≡ cut_off_parser
  -- the next frame begins 53 bytes later, and is lost
  pub at_53 : length short_frame ≡ 53
  pub lost : Lost link_limit (pending_by link_limit cut_off_parser) (short_frame ∷ [])
  -- whichever clean frame f is next, and whatever calls take short_frame, f and more, f is not found
  pub unfound : (calls : List Call) → Every ByteCall calls → Every Goes calls → (f : List ℕ) → Clean link_limit f
      → (v : List ℕ) → taken_by (did cut_off_parser calls) ≡ short_frame ++ (f ++ v) → (ps : List Piece)
      → Division (Open link_limit) (Whole link_limit) (pending_by link_limit cut_off_parser ++ taken_by (did cut_off_parser calls)) ps
      → ¬ EndsAt ps (length (pending_by link_limit cut_off_parser ++ (short_frame ++ f))) f
  -- and if calls take short_frame and f alone, nothing is delivered
  pub undelivered : (calls : List Call) → Every ByteCall calls → Every Goes calls → (f : List ℕ) → Clean link_limit f
      → taken_by (did cut_off_parser calls) ≡ short_frame ++ f → deliveries (ld2410 link_limit).delivers (did cut_off_parser calls) ≡ []
  -- one byte more is enough: a clean frame after one of 54 bytes is found, and delivered if it decodes
  pub enough : (calls : List Call) → Every ByteCall calls → Every Goes calls → (g f : List ℕ)
      → Clean link_limit g → length g ≡ 54 → Clean link_limit f → taken_by (did cut_off_parser calls) ≡ g ++ f → (ps : List Piece)
      → Division (Open link_limit) (Whole link_limit) (pending_by link_limit cut_off_parser ++ taken_by (did cut_off_parser calls)) ps
      → Recovered link_limit (did cut_off_parser calls) (pending_by link_limit cut_off_parser) (g ∷ []) f [] ps

-- "from fresh, without a reset and with no counter full, bytes taken equal dropped plus unfinished plus the lengths of
-- whole frames"
abbrev pub Accounted : Parser → Type 0
Accounted x = (calls : List Call) → Every ByteCall calls → Every Goes calls
    → (left x calls).stats.dropped < counter_max
    → (ps : List Piece) → Division (Open link_limit) (Whole link_limit) (taken_by (did x calls)) ps
    → length (taken_by (did x calls))
    ≡ (left x calls).stats.dropped + unfinished_of link_limit (left x calls) + sum in_frames ps

-- "A parser built by hand with fields out of range .. is handled as if reset came first."
pub record ResetFirst (x y : Parser) : Type 0 where
  pub of_byte : OutOfRange link_limit x.scan → (b : ℕ) → feed_of link_limit x b ≡ feed_of link_limit y b
  pub of_slice : OutOfRange link_limit x.scan → (bs : List ℕ)
      → feed_slice_of link_limit x bs ≡ feed_slice_of link_limit y bs
