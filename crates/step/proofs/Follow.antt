-- A parser's step follows the scanner's if it leaves the same bytes pending, ends the same frame and counts the same
-- pieces. One lemma for each thing that a byte can do.
use mathlib.Core.Path.{◌≡◌, refl, sym, ap, ◌∙◌}
use mathlib.Core.List.{List, [], ◌∷◌, ◌++◌}
use mathlib.Core.Bool.{true, false}
use mathlib.Core.Option as Of
use mathlib.Core.Option.{none, some}
use Prim.Native.Nat.{ℕ, ◌≤◌, ◌<◌}
use native.Mathlib.Omega.{arith}
use lib.ListN.{length, take, get_or}
use Rattle.std.specs.Prelude.{Some, None}
use Rattle.std.specs.declared.option.Option.{Option}
use Rattle.wire.specs.Number.{le_bytes}
use Rattle.wire.specs.Counter.{counter_max, bumped}
use Rattle.wire.proofs.Counters.{bumped_append, bumped_nil, bumped_most}
use Rattle.wire.specs.Family.{header, tail, starting_with}
use Rattle.wire.specs.declared.Kind.{Kind}
use Rattle.wire.specs.declared.Kind.TheVariants.{Report, Command}
use Rattle.framing.specs.Tally.{sum, resynced, lost}
use Rattle.framing.proofs.Scanner as Scanner
use Rattle.framing.proofs.View.{step_whole, step_on, step_over}
use Rattle.stream.proofs.Scan.{opens, wholes}
use Rattle.stream.proofs.Link.{link, is_open, not_open, is_whole, not_whole}
use Rattle.stream.proofs.Steps.{starting_sound, start_opens, start_strays, start_not_whole}
use Rattle.scan.specs.Scan.{at, hunting, well_formed}
use Rattle.scan.specs.Stands.{pending_of}
use Rattle.scan.specs.Start.{frame_ended, continued, abandoned, start_as, start_of}
use Rattle.scan.specs.declared.State.TheVariants.{Header}
use Rattle.scan.specs.declared.Scan.{Scan}
use Rattle.scan.specs.declared.stats.Stats.{Stats}
use Rattle.scan.specs.declared.stats.Ended.{Ended}
use Rattle.scan.specs.declared.stats.Stepped.{Stepped}

-- No counter is above its maximum. The counters' type ensures this.
pub record Capped (st : Stats) : Type 0 where
  pub frames : st.frames ≤ counter_max
  pub resyncs : st.resyncs ≤ counter_max
  pub dropped : st.dropped ≤ counter_max
  pub malformed : st.malformed ≤ counter_max

-- The bytes of the whole frame that ended, whose data are at the front of the buffer.
abbrev pub ended_as : Option Ended → List ℕ → Of.Option (List ℕ)
ended_as (Some e) buf = some (header e.kind ++ (le_bytes 2 e.len ++ (take e.len buf ++ tail e.kind)))
ended_as None buf = none

-- Its length is at most `limit`.
abbrev pub Fits : ℕ → Option Ended → Type 0
Fits limit (Some e) = e.len ≤ limit
Fits limit None = Unit {0}

-- The step r, from the counters st, leaving the buffer buf, does what the scanner's step x does.
pub record Follows (limit : ℕ) (r : Stepped) (st : Stats) (buf : List ℕ) (x : Scanner.Step) : Type 0 where
  pub order : well_formed limit r.scan ≡ true
  pub pending : pending_of r.scan buf ≡ x.pending
  pub ended : ended_as r.ended buf ≡ x.ended
  pub fits : Fits limit r.ended
  pub frames : r.stats.frames ≡ st.frames
  pub malformed : r.stats.malformed ≡ st.malformed
  pub resyncs : r.stats.resyncs ≡ bumped st.resyncs (sum resynced x.closed)
  pub dropped : r.stats.dropped ≡ bumped st.dropped (sum lost x.closed)

module _ (limit : ℕ) (buf : List ℕ) where
  -- The byte keeps what is pending open.
  pub follows_on : (c : Scan) (st : Stats) (p : List ℕ) (b : ℕ) → Capped st → well_formed limit c ≡ true
      → pending_of c buf ≡ p ++ (b ∷ []) → opens limit (p ++ (b ∷ [])) ≡ true → wholes limit (p ++ (b ∷ [])) ≡ false
      → Follows limit (continued c st) st buf (Scanner.step (link limit) p b)
  follows_on c st p b cap i e o w = rw (step_on (link limit) p b (is_open limit _ o, not_whole limit _ w)) (record {
    order = i;
    pending = e;
    ended = refl;
    fits = tt;
    frames = refl;
    malformed = refl;
    resyncs = sym (bumped_nil st.resyncs cap.resyncs);
    dropped = sym (bumped_nil st.dropped cap.dropped);
  })

  -- The byte ends a frame.
  pub follows_end : (k : Kind) (n : ℕ) (st : Stats) (p : List ℕ) (b : ℕ) → Capped st → n ≤ limit
      → header k ++ (le_bytes 2 n ++ (take n buf ++ tail k)) ≡ p ++ (b ∷ []) → wholes limit (p ++ (b ∷ [])) ≡ true
      → Follows limit (record { scan = hunting; stats = st; ended = frame_ended k n }) st buf
      (Scanner.step (link limit) p b)
  unfolding well_formed pending_of
  follows_end k n st p b cap l e w = rw (step_whole (link limit) p b (is_whole limit _ w)) (record {
    order = refl;
    pending = refl;
    ended = ap some e;
    fits = l;
    frames = refl;
    malformed = refl;
    resyncs = sym (bumped_nil st.resyncs cap.resyncs);
    dropped = sym (bumped_nil st.dropped cap.dropped);
  })

  -- The byte is tried as a new start: it begins a frame, or is stray.
  first_pending : (k : Kind) (b : ℕ) → b ≡ get_or (header k) 0 0 → take 1 (header k) ≡ b ∷ []
  first_pending Report b e = rw e
  first_pending Command b e = rw e

  start_as_lem : (st : Stats) (b : ℕ) (o : Option Kind) → starting_with b ≡ o → Capped st
      → Follows limit (start_as st o) st buf (Scanner.step (link limit) [] b)
  unfolding well_formed pending_of
  start_as_lem st b (Some k) e cap = follows_on (at Header k 1 0 0) st [] b cap refl
      (first_pending k b (starting_sound b k e)) (start_opens limit b k e) (start_not_whole limit b)
  start_as_lem st b None e cap = rw (step_over (link limit) [] b (not_open limit _ (start_strays limit b e))) (record {
    order = refl;
    pending = refl;
    ended = refl;
    fits = tt;
    frames = refl;
    malformed = refl;
    resyncs = sym (bumped_nil st.resyncs cap.resyncs);
    dropped = refl;
  })

  pub follows_start : (st : Stats) (b : ℕ) → Capped st
      → Follows limit (start_of st b) st buf (Scanner.step (link limit) [] b)
  unfolding start_of
  follows_start st b cap = start_as_lem st b (starting_with b) refl cap

  -- The byte breaks the n pending bytes, and is itself tried as a new start.
  abandoned_capped : (st : Stats) (n : ℕ) → Capped st → Capped (abandoned st n)
  unfolding abandoned
  abandoned_capped st n cap = record {
    frames = cap.frames;
    resyncs = bumped_most st.resyncs 1;
    dropped = bumped_most st.dropped n;
    malformed = cap.malformed;
  }

  after_broken : (st : Stats) (s : List ℕ) (r : Stepped) (x : Scanner.Step)
      → Follows limit r (abandoned st (length s)) buf x → Follows limit r st buf (Scanner.breaks s x)
  unfolding abandoned
  after_broken st s r x f = record {
    order = f.order;
    pending = f.pending;
    ended = f.ended;
    fits = f.fits;
    frames = f.frames;
    malformed = f.malformed;
    resyncs = f.resyncs ∙ bumped_append st.resyncs 1 (sum resynced x.closed);
    dropped = f.dropped ∙ bumped_append st.dropped (length s) (sum lost x.closed);
  }

  pub follows_break : (st : Stats) (p : List ℕ) (b n : ℕ) → Capped st → 0 < n → length p ≡ n
      → opens limit (p ++ (b ∷ [])) ≡ false
      → Follows limit (start_of (abandoned st n) b) st buf (Scanner.step (link limit) p b)
  follows_break st [] b n cap l e o = absurd (omega arith)
  follows_break st (x ∷ p) b n cap l e o =
      let left = abandoned st (length (x ∷ p)) in
      rw (step_over (link limit) (x ∷ p) b (not_open limit _ o), ← e)
      (after_broken st (x ∷ p) (start_of left b) (Scanner.step (link limit) [] b)
      (follows_start left b (abandoned_capped st (length (x ∷ p)) cap)))
