-- Demand 3 for the parser of this crate: request 6.
--   did x calls      what the calls did, the first on the parser x, each other on the parser that the one before left
--   left x calls     the parser that they left
--   Demand3 p x      every list of calls that pass bytes fulfils the demand, from the parser x, in which p is pending
--   FromHere x       the demand holds from x with nothing pending, as in a parser that is fresh or just reset
--   Determined p x   the demand leaves no choice: whatever fulfils it, from the same counters, does as x does
--   back_to_back ds    frames, one after another, by the 24 target bytes of each
--   all_of dss        the frames of all stretches
--   AllDelivered x calls ds   the calls on x delivered the targets of each frame of ds; no resync, no dropped byte
--   Receives p x     AllDelivered holds if every stretch is frames back to back; p, pending in x, begins the first
--   OutOfRange x     x counts more bytes of a frame than a frame in progress can have
--   Stands x p       p is the pending bytes of x, none if it is out of range
--   FromAny x        whatever the fields of x are, the demand holds from x with its pending bytes; and what follows
--   Accounted x      from x on, without a reset and while `dropped` is not full, every byte taken is accounted for
--   ResetFirst x y   if x is out of range, it is fed as y is; the resets promise it of y, which they leave
-- Defined elsewhere: Fulfilled in the crate `engine`; open, whole, delivered and counted in Stream; a frame in the
-- crate `ld2450` (Frame); where counters stop in `wire` (Counter).
use Rattle.std.specs.Prelude.{◌≡◌, List, [], ◌∷◌, ◌++◌, map, ℕ, ◌+◌, ◌<◌, min, length, take, Some}
use Rattle.wire.specs.Counter.{counter_max}
use Rattle.wire.specs.Bytes.{Every}
use Rattle.framing.specs.Piece.{Piece}
use Rattle.framing.specs.Division.{Division}
use Rattle.framing.specs.Tally.{sum, in_frames}
use Rattle.engine.specs.Calls.{Call, ByteCall, Goes, Did, sliced, taken_by, stretches}
use Rattle.engine.specs.Engine.{Engine, history, final}
use Rattle.engine.specs.Fulfilled.{deliveries, Fulfilled, Same}
use Rattle.ld2450.specs.Target.{three_of}
use Rattle.ld2450.specs.Frame.{framed}
use Rattle.ld2450_parser.specs.Stream.{Answer, Open, Whole, nothing, Counter, ld2450}
use Rattle.ld2450_parser.specs.Feed.{feed_of, feed_slice_of, unfinished_of}
use Rattle.ld2450_parser.specs.Engine.{counter_in, pending_by, engine}
use Rattle.ld2450_parser.specs.declared.Parser.{Parser}

abbrev pub did : Parser → List Call → List (Did Answer)
did x calls = history engine x calls

abbrev pub left : Parser → List Call → Parser
left x calls = final engine x calls

abbrev pub Demand3 : List ℕ → Parser → Type 0
Demand3 p x = (calls : List Call) → Every ByteCall calls → Fulfilled ld2450 engine p x calls

abbrev pub FromHere : Parser → Type 0
FromHere x = Demand3 [] x

abbrev pub Determined : List ℕ → Parser → Type 0
Determined p x = (E : Engine Parser Answer Counter) (s : Parser) (calls : List Call)
    → Every ByteCall calls → Fulfilled ld2450 E p s calls → E.max ≡ counter_max
    → ((k : Counter) → E.counter k s ≡ counter_in k x.stats) → Same E engine s x calls

abbrev pub back_to_back : List (List ℕ) → List ℕ
back_to_back [] = []
back_to_back (d ∷ ds) = framed d ++ back_to_back ds

abbrev pub all_of : List (List (List ℕ)) → List (List ℕ)
all_of [] = []
all_of (ds ∷ dss) = ds ++ all_of dss

pub record AllDelivered (x : Parser) (calls : List Call) (ds : List (List ℕ)) : Type 0 where
  -- each once, in order, and nothing else
  pub each : deliveries ld2450.delivers (did x calls)
      ≡ map (λ (d : List ℕ). Some (three_of d)) ds
  pub frames : (left x calls).stats.frames ≡ min (x.stats.frames + length ds) counter_max
  pub resyncs : (left x calls).stats.resyncs ≡ x.stats.resyncs
  pub dropped : (left x calls).stats.dropped ≡ x.stats.dropped

-- For a sender: it follows from the demand, and does not mention divisions. dss has a list of frames for each stretch.
abbrev pub Receives : List ℕ → Parser → Type 0
Receives p x = (calls : List Call) (dss : List (List (List ℕ)))
    → Every ByteCall calls → Every (Every (λ (d : List ℕ). length d ≡ 24)) dss
    → stretches p (did x calls) ≡ map back_to_back dss → AllDelivered x calls (all_of dss)

-- A frame has 30 bytes, so one in progress has at most 29.
abbrev pub OutOfRange : Parser → Type 0
OutOfRange x = 29 < x.at

pub record Stands (x : Parser) (p : List ℕ) : Type 0 where
  -- out of range it "is handled as if reset came first": nothing is pending
  pub out : OutOfRange x → p ≡ []
  -- in range they are the bytes of the frame in progress
  pub inside : ¬ OutOfRange x → p ≡ take x.at (framed x.buf)

pub record FromAny (x : Parser) : Type 0 where
  pub stands : Stands x (pending_by x)
  pub fulfilled : Demand3 (pending_by x) x
  pub determined : Determined (pending_by x) x
  -- the counter of frames counts the frames that were delivered
  pub frames : (calls : List Call) → Every ByteCall calls → (left x calls).stats.frames
      ≡ min (x.stats.frames + length (deliveries ld2450.delivers (did x calls))) counter_max
  -- "an empty slice takes none", and delivers nothing
  pub empty : (calls : List Call) → Every ByteCall calls → (before after : List (Did Answer)) (k : ℕ)
      (a : Answer) → did x calls ≡ before ++ (sliced [] k a ∷ after) → (k ≡ 0) × (a ≡ nothing)
  -- a parser y with the same pending bytes and the same counters as the parser that the calls left goes on as that
  -- parser would
  pub resumed : (calls more : List Call) → Every ByteCall calls → Every ByteCall more
      → (y : Parser) → Demand3 (pending_by y) y → pending_by y ≡ pending_by (left x calls)
      → y.stats ≡ (left x calls).stats → did x (calls ++ more) ≡ did x calls ++ did y more
  pub received : Receives (pending_by x) x

-- "from fresh, without a reset and with no counter full, bytes taken equal dropped plus unfinished plus the lengths of
-- whole frames"
abbrev pub Accounted : Parser → Type 0
Accounted x = (calls : List Call) → Every ByteCall calls → Every Goes calls
    → (left x calls).stats.dropped < counter_max
    → (ps : List Piece) → Division Open Whole (taken_by (did x calls)) ps
    → length (taken_by (did x calls)) ≡ (left x calls).stats.dropped + unfinished_of (left x calls) + sum in_frames ps

-- "A parser built by hand with fields out of range .. is handled as if reset came first."
pub record ResetFirst (x y : Parser) : Type 0 where
  pub of_byte : OutOfRange x → (b : ℕ) → feed_of x b ≡ feed_of y b
  pub of_slice : OutOfRange x → (bs : List ℕ) → feed_slice_of x bs ≡ feed_slice_of y bs
