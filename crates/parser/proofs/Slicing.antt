-- A slice fed does what its bytes do, fed one by one up to the first that ends a frame.
use mathlib.Core.Path.{◌≡◌, refl, ap}
use mathlib.Core.List.{List, [], ◌∷◌}
use Prim.Native.Nat.{ℕ, suc, ◌<◌}
use Rattle.wire.specs.Bytes.{Bytes}
use Rattle.engine.specs.Engine.{Sliced}
use Rattle.engine.proofs.Lawful.{stop_if, feed_until}
use Rattle.stream.proofs.Link.{link}
use Rattle.stream.specs.Deliver.{Answer}
use Rattle.stream.proofs.Decoding.{decoding}
use Rattle.scan.specs.Scan.{or_reset}
use Rattle.step.specs.Slice.{Run, run_at, then_run, run_of}
use Rattle.feed.specs.Moved.{emitted, buf_of, moved_of}
use Rattle.parser.specs.Feed.{put, feed_of}
use Rattle.parser.specs.Engine.{with_payload, engine}
use Rattle.scan.specs.declared.Scan.{Scan}
use Rattle.scan.specs.declared.stats.Stats.{Stats}
use Rattle.parser.specs.declared.Parser.{Parser}
use Rattle.scan.specs.declared.stats.Ended.{Ended}
use Rattle.std.specs.Prelude.{Some, None}
use Rattle.std.specs.declared.option.Option.{Option}
use Rattle.step.proofs.Follow.{ended_as}
use Rattle.scan.proofs.Orders.{or_reset_formed, or_reset_same}
use Rattle.parser.proofs.Feeding.{Valid, stepped, left, follows_byte, stepped_valid}

-- What a run gives back; and the same with one byte more.
abbrev slice_as : Run → Sliced Parser Answer
slice_as r =
    let m = emitted r.scanned.ended r.scanned.scan r.scanned.stats r.buf in
    record {
      state = put r.buf m.scan m.stats;
      told = r.scanned.taken;
      answer = with_payload m.answer (put r.buf m.scan m.stats);
    }

abbrev more : Sliced Parser Answer → Sliced Parser Answer
more s = record { state = s.state; told = suc s.told; answer = s.answer }

-- The parser with its scan reset, if that is out of range.
abbrev pub still : ℕ → Parser → Parser
still limit p = put p.buf (or_reset limit p.scan) p.stats

pub or_reset_twice : (limit : ℕ) (c : Scan) → or_reset limit (or_reset limit c) ≡ or_reset limit c
or_reset_twice limit c = or_reset_same limit (or_reset limit c) (or_reset_formed limit c)

module _ (limit : ℕ) (small : limit < 65536) where
  -- A step, and the bytes after it, which count only if the step ended no frame.
  stop_as : (e : Option Ended) (left : List ℕ) (c : Scan) (st : Stats) (others : Run) (rest : Sliced Parser Answer)
      → (e ≡ None → slice_as others ≡ rest)
      → slice_as (then_run e (record { scan = c; stats = st; ended = e }) left others)
      ≡ stop_if (ended_as e left) (slice_as (run_at c st e 1 left)) (more rest)
  stop_as (Some x) left c st others rest h = refl
  stop_as None left c st others rest h = ap more (h refl)

  pub until : (bs : List ℕ) → Bytes bs → (p : Parser) → Valid limit p
      → slice_as (run_of limit (or_reset limit p.scan) p.stats p.buf bs)
      ≡ feed_until (link limit) decoding (engine limit) (still limit p) bs
  unfolding run_of feed_of moved_of buf_of
  until [] bytes p v = refl
  until (b ∷ bs) bytes p v =
      let f = follows_byte limit small p b v bytes.0 in
      let x = stepped limit p b in
      let buf = left limit p b in
      let m = emitted x.ended x.scan x.stats buf in
      let others = until bs bytes.1 (put buf x.scan x.stats) (stepped_valid limit small p b v bytes.0) in
      rw (or_reset_twice limit p.scan, ← f.ended)
      (stop_as x.ended buf x.scan x.stats (run_of limit x.scan x.stats buf bs)
      (feed_until (link limit) decoding (engine limit) (put buf m.scan m.stats) bs)
      (λ e. rw e (rw (or_reset_same limit x.scan f.order) at others)))
