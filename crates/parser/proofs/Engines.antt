-- The parser is a lawful engine of the link's framing, at every largest length below 65,536.
use mathlib.Core.Path.{◌≡◌, refl, sym, subst}
use mathlib.Core.List.{List, [], ◌∷◌}
use Prim.Native.Nat.{ℕ, ◌<◌}
use Rattle.wire.specs.Bytes.{Bytes}
use Rattle.engine.specs.Engine.{Sliced}
use Rattle.engine.proofs.Lawful.{feed_until, Lawful}
use Rattle.engine.proofs.Still as Still
use Rattle.engine.proofs.Until.{until_invariant}
use Rattle.stream.proofs.Link.{link}
use Rattle.stream.specs.Deliver.{Answer}
use Rattle.stream.proofs.Decoding.{decoding, counting}
use Rattle.scan.specs.Scan.{well_formed, or_reset, unfinished_by}
use Rattle.scan.specs.Stands.{pending_of}
use Rattle.feed.specs.Moved.{buf_of, moved_of, slice_buf_of, slice_moved_of}
use Rattle.parser.specs.Feed.{feed_of, feed_slice_of, reset_of}
use Rattle.parser.specs.Feed.{unfinished_of}
use Rattle.parser.specs.Engine.{counter_in, pending_by, engine}
use Rattle.parser.specs.declared.Parser.{Parser}
use Rattle.step.proofs.Waiting.{waits, pending_length}
use Rattle.scan.proofs.Orders.{or_reset_formed}
use Rattle.parser.proofs.Emitted.{capped_at}
use Rattle.parser.proofs.Feeding.{Valid, fed_valid, fed_pending, fed_answer, fed_counter}
use Rattle.parser.proofs.Slicing.{still, or_reset_twice, until}

pub hunting_pending : (limit : ℕ) (p : Parser) → pending_by limit (reset_of p) ≡ []
unfolding or_reset well_formed pending_of
hunting_pending limit p = refl

module _ (limit : ℕ) (small : limit < 65536) where
  -- A slice does what its bytes do, fed one by one up to a frame's end, with the scan reset first if out of range.
  slice_still : (p : Parser) (bs : List ℕ) → Valid limit p → Bytes bs
      → (engine limit).slice p bs ≡ feed_until (link limit) decoding (engine limit) (still limit p) bs
  unfolding feed_slice_of slice_moved_of slice_buf_of
  slice_still p bs v h = until limit small bs h p v

  -- A feed does the same whether or not that reset came first.
  still_feed : (p : Parser) (b : ℕ) → (engine limit).feed (still limit p) b ≡ (engine limit).feed p b
  unfolding feed_of moved_of buf_of
  still_feed p b = rw (or_reset_twice limit p.scan)

  still_pending : (p : Parser) → pending_by limit (still limit p) ≡ pending_by limit p
  still_pending p = rw (or_reset_twice limit p.scan)

  pub slice_until : (p : Parser) (b : ℕ) (bs : List ℕ) → Valid limit p → Bytes (b ∷ bs)
      → (engine limit).slice p (b ∷ bs) ≡ feed_until (link limit) decoding (engine limit) p (b ∷ bs)
  slice_until p b bs v h = Still.slice_until (link limit) decoding (engine limit) (Valid limit) (still limit)
      still_feed still_pending slice_still p b bs v h

  same_until : {X : Type 0} (get : Sliced Parser Answer → X) (p : Parser) → Valid limit p
      → get (feed_until (link limit) decoding (engine limit) (still limit p) [])
      ≡ get (feed_until (link limit) decoding (engine limit) p []) → (bs : List ℕ) → Bytes bs
      → get ((engine limit).slice p bs) ≡ get (feed_until (link limit) decoding (engine limit) p bs)
  same_until get p v e bs h = Still.same_until (link limit) decoding (engine limit) (Valid limit) (still limit)
      still_feed still_pending slice_still get p v e bs h

  pub lawful : Lawful (link limit) decoding counting (engine limit) (Valid limit)
  unfolding unfinished_of unfinished_by
  lawful = record {
    feed_valid = fed_valid limit small;
    feed_pending = fed_pending limit small;
    feed_answer = fed_answer limit small;
    feed_counter = fed_counter limit small;
    slice_valid = λ p bs v h. subst (λ (s : Sliced Parser Answer). Valid limit s.state) (sym (slice_still p bs v h))
        (until_invariant (link limit) decoding (engine limit) (Valid limit) (fed_valid limit small)
        (still limit p) bs (record { room = v.room; capped = v.capped }) h);
    slice_pending = λ p bs v h.
        same_until (λ s. pending_by limit s.state) p v (still_pending p) bs h;
    slice_told = λ p bs v h. same_until (λ s. s.told) p v refl bs h;
    slice_answer = λ p bs v h. same_until (λ s. s.answer) p v refl bs h;
    slice_counter = λ p bs v h k. same_until (λ s. counter_in k s.state.stats) p v refl bs h;
    reset_valid = λ p v. record { room = v.room; capped = v.capped };
    reset_pending = λ p v. hunting_pending limit p;
    reset_counter = λ p v k. refl;
    pending_waits = λ p v.
        waits limit small p.buf v.room (or_reset limit p.scan) (or_reset_formed limit p.scan);
    pending_length = λ p v.
        pending_length limit small p.buf v.room (or_reset limit p.scan) (or_reset_formed limit p.scan);
    capped = λ p v k. capped_at p.stats v.capped k;
  }
