-- The parser is a lawful engine of the LD2450's framing.
use mathlib.Core.Path.{◌≡◌, refl, sym, subst}
use mathlib.Core.List.{List, []}
use Prim.Native.Nat.{ℕ}
use native.Mathlib.Omega.{arith}
use lib.Seq.{length-take-le}
use Rattle.wire.specs.Bytes.{Bytes}
use Rattle.engine.specs.Engine.{Sliced}
use Rattle.engine.proofs.Lawful.{feed_until, Lawful}
use Rattle.engine.proofs.Still.{same_until}
use Rattle.engine.proofs.Until.{until_invariant}
use Rattle.ld2450.specs.Frame.{framed}
use Rattle.ld2450.proofs.Frames.{framed_length}
use Rattle.ld2450_parser.specs.Stream.{Answer}
use Rattle.ld2450_parser.specs.Feed.{or_reset, still, feed_of, feed_slice_of, reset_of, unfinished_of}
use Rattle.ld2450_parser.specs.Engine.{counter_in, pending_by, engine}
use Rattle.ld2450_parser.specs.declared.Parser.{Parser}
use Rattle.ld2450_parser.proofs.Frames.{link, waits}
use Rattle.ld2450_parser.proofs.Decoding.{decoding, counting}
use Rattle.ld2450_parser.proofs.Ranges.{or_reset_same, or_reset_range, or_reset_twice}
use Rattle.ld2450_parser.proofs.OneByte.{Valid, fed_pending, fed_answer, fed_counter, fed_valid}
use Rattle.ld2450_parser.proofs.Slices.{until}

pub reset_nothing : (p : Parser) → pending_by (reset_of p) ≡ []
reset_nothing p = rw (or_reset_same 0 (omega arith))

still_valid : (p : Parser) → Valid p → Valid (still p)
still_valid p v = record { room = v.room; capped = v.capped }

-- Resetting a place out of range first changes nothing that a feed sees.
still_feed : (p : Parser) (b : ℕ) → engine.feed (still p) b ≡ engine.feed p b
unfolding feed_of
still_feed p b = rw (or_reset_twice p.at)

still_pending : (p : Parser) → pending_by (still p) ≡ pending_by p
still_pending p = rw (or_reset_twice p.at)

slice_still : (p : Parser) (bs : List ℕ) → Valid p → Bytes bs
    → engine.slice p bs ≡ feed_until link decoding engine (still p) bs
unfolding feed_slice_of
slice_still p bs v h = until bs h (still p) (still_valid p v) (or_reset_range p.at)

same : {X : Type 0} (get : Sliced Parser Answer → X) (p : Parser) → Valid p
    → get (feed_until link decoding engine (still p) []) ≡ get (feed_until link decoding engine p [])
    → (bs : List ℕ) → Bytes bs → get (engine.slice p bs) ≡ get (feed_until link decoding engine p bs)
same get p v e bs h = same_until link decoding engine Valid still still_feed still_pending slice_still get p v
    e bs h

pub lawful : Lawful link decoding counting engine Valid
unfolding unfinished_of
lawful = record {
  feed_valid = λ p b v h. fed_valid p b v;
  feed_pending = λ p b v h. fed_pending p b v;
  feed_answer = λ p b v h. fed_answer p b v;
  feed_counter = λ p b v h k. fed_counter p b v k;
  slice_valid = λ p bs v h. subst (λ (s : Sliced Parser Answer). Valid s.state) (sym (slice_still p bs v h))
      (until_invariant link decoding engine Valid (λ q b w g. fed_valid q b w) (still p) bs (still_valid p v) h);
  slice_pending = λ p bs v h. same (λ s. pending_by s.state) p v (still_pending p) bs h;
  slice_told = λ p bs v h. same (λ s. s.told) p v refl bs h;
  slice_answer = λ p bs v h. same (λ s. s.answer) p v refl bs h;
  slice_counter = λ p bs v h k. same (λ s. counter_in k s.state.stats) p v refl bs h;
  reset_valid = λ p v. record { room = v.room; capped = v.capped };
  reset_pending = λ p v. reset_nothing p;
  reset_counter = λ p v k. refl;
  pending_waits = λ p v. waits (or_reset p.at) p.buf v.room (or_reset_range p.at);
  pending_length = λ p v. sym (length-take-le (or_reset p.at) (framed p.buf)
      (omega (arith, or_reset_range p.at, framed_length p.buf v.room)));
  capped = λ p v k. v.capped k;
}
