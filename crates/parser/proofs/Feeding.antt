-- A byte fed does what the scanner's step does: the laws of an engine at one byte.
use mathlib.Core.Path.{◌≡◌, refl, ap, ◌∙◌}
use mathlib.Core.List.{List}
use mathlib.Core.Bool.{not}
use Prim.Native.Nat.{ℕ, ◌+◌, ◌≤◌, ◌<◌, min}
use native.Mathlib.Omega.{arith}
use lib.ListN.{length, length-set}
use Rattle.wire.specs.Counter.{counter_max, bumped}
use Rattle.wire.proofs.Counters.{bumped_most}
use Rattle.framing.specs.Tally.{sum, resynced, lost}
use Rattle.framing.proofs.Counting.{total}
use Rattle.framing.proofs.Scanner as Scanner
use Rattle.engine.proofs.Lawful.{answer_at}
use Rattle.stream.proofs.Link.{link}
use Rattle.stream.specs.Deliver.{decodes, Counter, frames, resyncs, dropped, malformed}
use Rattle.stream.proofs.Decoding.{decoding, counting}
use Rattle.scan.specs.Scan.{or_reset}
use Rattle.step.specs.Step.{step_of, stored_in, stored}
use Rattle.feed.specs.Moved.{moved_of, buf_of}
use Rattle.parser.specs.Feed.{put, feed_of}
use Rattle.parser.specs.Engine.{with_payload, counter_in, pending_by}
use Rattle.scan.specs.declared.State.{State}
use Rattle.scan.specs.declared.State.TheVariants.{Header, Len, Data, Tail}
use Rattle.scan.specs.declared.Scan.{Scan}
use Rattle.parser.specs.declared.Parser.{Parser}
use Rattle.scan.specs.declared.stats.Stepped.{Stepped}
use Rattle.step.proofs.Follow.{Capped, Follows}
use Rattle.step.proofs.Steps.{follows}
use Rattle.scan.proofs.Orders.{or_reset_formed, or_reset_same}
use Rattle.parser.proofs.Emitted.{ended_count, ended_nil, step_passed, added_by}
use Rattle.parser.proofs.Emitted.{emitted_scan, emitted_answer, emitted_counter}

-- What a parser's type ensures: the buffer has room for the largest length, and no counter is above its maximum.
pub record Valid (limit : ℕ) (p : Parser) : Type 0 where
  pub room : limit ≤ length p.buf
  pub capped : Capped p.stats

-- Storing a byte keeps the buffer's length.
stored_length : (c : Scan) (buf : List ℕ) (b : ℕ) → length (stored c buf b) ≡ length buf
unfolding stored
stored_length c buf b = go c.state
  where
    go : (s : State) → length (stored_in s c.pos buf b) ≡ length buf
    go Header = refl
    go Len = refl
    go Data = length-set buf c.pos b
    go Tail = refl

-- What a byte does to a parser, its scan reset first if out of range: the step, the buffer left, the scanner's step.
abbrev pub stepped : ℕ → Parser → ℕ → Stepped
stepped limit p b = step_of limit (or_reset limit p.scan) p.stats b

abbrev pub left : ℕ → Parser → ℕ → List ℕ
left limit p b = stored (or_reset limit p.scan) p.buf b

abbrev scanned : ℕ → Parser → ℕ → Scanner.Step
scanned limit p b = Scanner.step (link limit) (pending_by limit p) b

module _ (limit : ℕ) (small : limit < 65536) (p : Parser) (b : ℕ) (v : Valid limit p) (byte : b < 256) where
  pub follows_byte : Follows limit (stepped limit p b) p.stats (left limit p b) (scanned limit p b)
  follows_byte =
      follows limit small p.stats v.capped p.buf v.room b byte (or_reset limit p.scan)
      (or_reset_formed limit p.scan)

  -- The parser that the step leaves, before the frame that it ended is counted.
  pub stepped_valid : Valid limit (put (left limit p b) (stepped limit p b).scan (stepped limit p b).stats)
  stepped_valid =
      let f = follows_byte in
      record {
        room = rw (stored_length (or_reset limit p.scan) p.buf b) v.room;
        capped = record {
          frames = rw f.frames v.capped.frames;
          resyncs = rw f.resyncs (bumped_most p.stats.resyncs (sum resynced (scanned limit p b).closed));
          dropped = rw f.dropped (bumped_most p.stats.dropped (sum lost (scanned limit p b).closed));
          malformed = rw f.malformed v.capped.malformed;
        };
      }

  pub fed_pending : pending_by limit (feed_of limit p b).parser ≡ (scanned limit p b).pending
  unfolding feed_of moved_of buf_of
  fed_pending =
      let x = stepped limit p b in
      rw (
        emitted_scan x.ended x.scan x.stats (left limit p b),
        or_reset_same limit x.scan follows_byte.order,
      ) follows_byte.pending

  pub fed_answer : with_payload (feed_of limit p b).answer (feed_of limit p b).parser
      ≡ answer_at decoding (scanned limit p b).ended
  unfolding feed_of moved_of buf_of
  fed_answer =
      let x = stepped limit p b in
      emitted_answer limit small (left limit p b) stepped_valid.room x.scan x.stats
      stepped_valid.capped x.ended follows_byte.fits ∙ ap (answer_at decoding) follows_byte.ended

  fed_bumped : (k : Counter) → counter_in k (feed_of limit p b).parser.stats
      ≡ bumped (counter_in k (stepped limit p b).stats)
      (ended_count (λ f. added_by k (decodes f)) (scanned limit p b).ended)
  unfolding feed_of moved_of buf_of
  fed_bumped k =
      let x = stepped limit p b in
      rw (← follows_byte.ended) (emitted_counter limit small (left limit p b) stepped_valid.room x.scan
      x.stats stepped_valid.capped x.ended follows_byte.fits k)

  pub fed_counter : (k : Counter) → counter_in k (feed_of limit p b).parser.stats
      ≡ min (counter_in k p.stats + total counting k (scanned limit p b).closed) counter_max
  unfolding bumped
  fed_counter frames =
      fed_bumped frames ∙ rw (follows_byte.frames, step_passed (link limit) decodes (pending_by limit p) b)
  fed_counter resyncs =
      let none = ended_nil (scanned limit p b).ended in
      omega (arith, fed_bumped resyncs, none, stepped_valid.capped.resyncs, follows_byte.resyncs)
  fed_counter dropped =
      let none = ended_nil (scanned limit p b).ended in
      omega (arith, fed_bumped dropped, none, stepped_valid.capped.dropped, follows_byte.dropped)
  fed_counter malformed =
      fed_bumped malformed
      ∙ rw (follows_byte.malformed, step_passed (link limit) (λ f. not (decodes f)) (pending_by limit p) b)

  fed_capped : (k : Counter) → counter_in k (feed_of limit p b).parser.stats ≤ counter_max
  fed_capped k = omega (arith, fed_counter k)

  pub fed_valid : Valid limit (feed_of limit p b).parser
  unfolding feed_of moved_of buf_of
  fed_valid = record {
    room = stepped_valid.room;
    capped = record {
      frames = fed_capped frames;
      resyncs = fed_capped resyncs;
      dropped = fed_capped dropped;
      malformed = fed_capped malformed;
    };
  }
