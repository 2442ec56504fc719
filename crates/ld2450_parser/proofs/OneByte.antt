-- A byte fed does what the scanner's step does: the laws of an engine at one byte.
--   Valid p   what a parser's type says of it: the buffer has 24 bytes, and no counter is past its max
use mathlib.Core.Path.{◌≡◌, ◌∙◌}
use Prim.Native.Nat.{ℕ, ◌+◌, ◌≤◌, min}
use native.Mathlib.Omega.{arith}
use lib.ListN.{length}
use Rattle.wire.specs.Counter.{counter_max}
use Rattle.framing.proofs.Counting.{total}
use Rattle.framing.proofs.Scanner as Scanner
use Rattle.engine.proofs.Lawful.{answer_at}
use Rattle.ld2450_parser.specs.Stream.{Counter}
use Rattle.ld2450_parser.specs.Feed.{or_reset, step_of, stored, stepped, feed_of}
use Rattle.ld2450_parser.specs.Engine.{counter_in, pending_by}
use Rattle.ld2450_parser.specs.declared.Parser.{Parser}
use Rattle.ld2450_parser.proofs.Frames.{link}
use Rattle.ld2450_parser.proofs.Decoding.{decoding, counting}
use Rattle.ld2450_parser.proofs.Places.{stored_length}
use Rattle.ld2450_parser.proofs.Follows.{Capped, Follows, follows}
use Rattle.ld2450_parser.proofs.Ranges.{or_reset_same, or_reset_range}

pub record Valid (p : Parser) : Type 0 where
  pub room : length p.buf ≡ 24
  pub capped : Capped p.stats

module _ (p : Parser) (b : ℕ) (v : Valid p) where
  abbrev scanned : Scanner.Step
  scanned = Scanner.step link (pending_by p) b

  follows_byte : Follows p.stats (step_of (or_reset p.at) p.stats b) (stored (or_reset p.at) p.buf b)
      scanned
  follows_byte = follows p.stats v.capped p.buf v.room b (or_reset p.at) (or_reset_range p.at)

  pub fed_range : (feed_of p b).parser.at ≤ 29
  unfolding feed_of stepped
  fed_range = follows_byte.is_in_range

  pub fed_pending : pending_by (feed_of p b).parser ≡ scanned.pending
  unfolding feed_of stepped
  fed_pending = rw (or_reset_same _ follows_byte.is_in_range) follows_byte.pending

  pub fed_answer : (feed_of p b).answer ≡ answer_at decoding scanned.ended
  unfolding feed_of stepped
  fed_answer = follows_byte.answer

  pub fed_counter : (k : Counter) → counter_in k (feed_of p b).parser.stats
      ≡ min (counter_in k p.stats + total counting k scanned.closed) counter_max
  unfolding feed_of stepped
  fed_counter k = follows_byte.counter k

  fed_room : length (feed_of p b).parser.buf ≡ 24
  unfolding feed_of stepped
  fed_room = stored_length (or_reset p.at) p.buf b ∙ v.room

  pub fed_valid : Valid (feed_of p b).parser
  fed_valid = record { room = fed_room; capped = λ k. omega (arith, fed_counter k) }
