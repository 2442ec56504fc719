-- What is emitted if a frame ended, and if none did: the answer that the frame gives, and the counters.
use mathlib.Core.Path.{◌≡◌, refl, sym, ap, ◌∙◌}
use mathlib.Core.List.{List, ◌++◌}
use mathlib.Core.Bool.{Bool, true, false, not, cond}
use mathlib.Core.Option as Of
use mathlib.Core.Option.{none, some}
use Prim.Native.Nat.{ℕ, ◌≤◌, ◌<◌}
use native.Mathlib.Omega.{arith}
use lib.ListN.{length, take, drop, take-append-drop}
use lib.Seq.{length-take-le}
use Rattle.wire.specs.Number.{le_bytes}
use Rattle.wire.specs.Counter.{counter_max, bumped}
use Rattle.wire.proofs.Counters.{bumped_nil}
use Rattle.wire.specs.Family.{header, tail, framed}
use Rattle.wire.specs.declared.Kind.{Kind}
use Rattle.frame.specs.Frame.{decoded}
use Rattle.framing.proofs.Framing.{Framing}
use Rattle.framing.specs.Tally.{sum, passed}
use Rattle.framing.proofs.Scanner as Scanner
use Rattle.framing.proofs.View.{Does, does_end, does_open, does_stray, does_break, does}
use Rattle.engine.proofs.Lawful.{answer_at}
use Rattle.stream.specs.Deliver.{decodes, delivered, Counter, frames, resyncs, dropped, malformed}
use Rattle.stream.proofs.Decoding.{decoding}
use Rattle.stream.proofs.Delivered.{decodes_framed, delivered_framed}
use Rattle.scan.specs.Start.{counted}
use Rattle.feed.specs.Moved.{emitted}
use Rattle.parser.specs.Feed.{put}
use Rattle.parser.specs.Engine.{with_payload, counter_in}
use Rattle.scan.specs.declared.Scan.{Scan}
use Rattle.scan.specs.declared.stats.Stats.{Stats}
use Rattle.scan.specs.declared.stats.Ended.{Ended}
use Rattle.std.specs.Prelude.{Some, None, is_ok}
use Rattle.std.specs.Result.{result_ok}
use Rattle.std.specs.declared.option.Option.{Option}
use Rattle.step.proofs.Follow.{Capped, ended_as, Fits}

-- What a count gains by the frame that a byte ended, if any. No other piece that the byte closed is a whole frame.
abbrev pub ended_count : (List ℕ → ℕ) → Of.Option (List ℕ) → ℕ
ended_count count (some f) = count f
ended_count count none = 0

pub ended_nil : (o : Of.Option (List ℕ)) → ended_count (λ f. 0) o ≡ 0
ended_nil (some f) = refl
ended_nil none = refl

module _ (F : Framing) (test : List ℕ → Bool) where
  does_passed : {p : List ℕ} {c : ℕ} {r : Scanner.Step} → Does F p c r
      → sum (passed test) r.closed ≡ ended_count (λ f. cond (test f) 1 0) r.ended
  does_passed (does_end {p} {c} w) = omega arith
  does_passed (does_open w) = refl
  does_passed (does_stray w) = refl
  does_passed (does_break w d) = omega (arith, does_passed d)

  pub step_passed : (p : List ℕ) (c : ℕ)
      → sum (passed test) (Scanner.step F p c).closed ≡ ended_count (λ f. cond (test f) 1 0) (Scanner.step F p c).ended
  step_passed p c = does_passed (does F p c)

-- The frame that ended is the data at the front of the buffer, framed.
framed_here : (k : Kind) (n : ℕ) (buf : List ℕ) → n ≤ length buf
    → header k ++ (le_bytes 2 n ++ (take n buf ++ tail k)) ≡ framed k (take n buf)
unfolding framed
framed_here k n buf l = rw (length-take-le n buf l)

pub emitted_scan : (e : Option Ended) (c : Scan) (st : Stats) (buf : List ℕ) → (emitted e c st buf).scan ≡ c
emitted_scan (Some e) c st buf = refl
emitted_scan None c st buf = refl

-- What a whole frame adds to a counter, by whether it decodes.
abbrev pub added_by : Counter → Bool → ℕ
added_by frames x = cond x 1 0
added_by resyncs x = 0
added_by dropped x = 0
added_by malformed x = cond (not x) 1 0

module _ (st : Stats) (cap : Capped st) where
  pub capped_at : (k : Counter) → counter_in k st ≤ counter_max
  capped_at frames = cap.frames
  capped_at resyncs = cap.resyncs
  capped_at dropped = cap.dropped
  capped_at malformed = cap.malformed

  none_more : (k : Counter) → counter_in k st ≡ bumped (counter_in k st) 0
  none_more k = sym (bumped_nil (counter_in k st) (capped_at k))

  counted_by_lem : (x : Bool) (k : Counter) → counter_in k (counted x st) ≡ bumped (counter_in k st) (added_by k x)
  counted_by_lem true frames = refl
  counted_by_lem true resyncs = none_more resyncs
  counted_by_lem true dropped = none_more dropped
  counted_by_lem true malformed = none_more malformed
  counted_by_lem false frames = none_more frames
  counted_by_lem false resyncs = none_more resyncs
  counted_by_lem false dropped = none_more dropped
  counted_by_lem false malformed = refl

module _ (limit : ℕ) (small : limit < 65536) (buf : List ℕ) (room : limit ≤ length buf)
    (c : Scan) (st : Stats) (cap : Capped st) where
  -- The data of a whole frame, at the front of the buffer.
  module _ (k : Kind) (n : ℕ) (fits : n ≤ limit) where
    data_small : length (take n buf) < 65536
    data_small = omega (arith, length-take-le n buf (omega arith))

    decodes_here : decodes (header k ++ (le_bytes 2 n ++ (take n buf ++ tail k)))
        ≡ is_ok (decoded 4 k (take n buf))
    decodes_here = rw (framed_here k n buf (omega arith)) (decodes_framed k (take n buf) data_small)

    delivered_here : with_payload (result_ok (decoded 4 k (take n buf))) (put buf c st)
        ≡ delivered (header k ++ (le_bytes 2 n ++ (take n buf ++ tail k)))
    delivered_here =
        rw (framed_here k n buf (omega arith))
        (sym (delivered_framed (take n buf) (drop n buf) k data_small
        ∙ ap (λ s. with_payload (result_ok (decoded 4 k (take n buf))) (put s c st)) (take-append-drop n buf)))

  pub emitted_answer : (e : Option Ended) → Fits limit e
      → with_payload (emitted e c st buf).answer (put buf c st) ≡ answer_at decoding (ended_as e buf)
  emitted_answer (Some e) fits = delivered_here e.kind e.len fits
  emitted_answer None fits = refl

  pub emitted_counter : (e : Option Ended) → Fits limit e → (k : Counter)
      → counter_in k (emitted e c st buf).stats
      ≡ bumped (counter_in k st) (ended_count (λ f. added_by k (decodes f)) (ended_as e buf))
  emitted_counter (Some e) fits k =
      rw (decodes_here e.kind e.len fits) (counted_by_lem st cap (is_ok (decoded 4 e.kind (take e.len buf))) k)
  emitted_counter None fits k = none_more st cap k
