-- A byte does to a place in range, the counters and the buffer what the scanner's step does.
--   Capped    no counter is past its max
--   Follows   what a byte did, from the counters st, is what the scanner did
use mathlib.Core.Path.{◌≡◌, refl, sym, ap, ◌∙◌}
use mathlib.Core.List.{List, [], ◌∷◌, ◌++◌}
use mathlib.Core.Bool.{Bool, true, false}
use Prim.Native.Nat.{ℕ, zero, suc, ◌+◌, ◌≤◌, min}
use native.Mathlib.Numerals.{add-one}
use native.Mathlib.Omega.{arith}
use lib.Dec.{eqb}
use lib.ListN.{length, take}
use lib.Seq.{take_at, length-take-le}
use borrow.Author.Tests.{eqb-true, eqb-false, ne_eqb}
use Rattle.std.specs.Prelude.{Some}
use Rattle.wire.specs.Counter.{counter_max, bumped}
use Rattle.wire.proofs.Counters.{capped_append}
use Rattle.framing.specs.Piece.{broken}
use Rattle.framing.proofs.Counting.{total}
use Rattle.framing.proofs.Scanner as Scanner
use Rattle.framing.proofs.View.{step_whole, step_on, step_over}
use Rattle.engine.proofs.Lawful.{answer_at}
use Rattle.ld2450.specs.Target.{three_of}
use Rattle.ld2450.specs.Frame.{tail, framed}
use Rattle.ld2450.proofs.Frames.{framed_length}
use Rattle.ld2450_parser.specs.Stream.{Open, Counter, frames, resyncs, dropped, adds}
use Rattle.ld2450_parser.specs.Feed.{Stepped, continued, ended, abandoned, one_dropped, started, step_of, stored, answer_if}
use Rattle.ld2450_parser.specs.Engine.{counter_in}
use Rattle.ld2450_parser.specs.declared.Stats.{Stats}
use Rattle.ld2450_parser.proofs.Frames.{link, is_frame_lem, waits, first_not_open}
use Rattle.ld2450_parser.proofs.Decoding.{decoding, counting}
use Rattle.ld2450_parser.proofs.Places.{Turn, goes_on, goes_last, goes_off, turn, stored_length}

abbrev pub Capped : Stats → Type 0
Capped st = (k : Counter) → counter_in k st ≤ counter_max

pub record Follows (st : Stats) (s : Stepped) (d : List ℕ) (r : Scanner.Step) : Type 0 where
  pub is_in_range : s.at ≤ 29
  pub pending : take s.at (framed d) ≡ r.pending
  pub answer : answer_if s.ended d ≡ answer_at decoding r.ended
  pub counter : (k : Counter) → counter_in k s.stats ≡ min (counter_in k st + total counting k r.closed) counter_max

-- The frame goes on, or ends, or a byte is stray: each as in the scanner.
module _ (st : Stats) (cap : Capped st) (d : List ℕ) where
  on_follows : (n : ℕ) (p : List ℕ) → n ≤ 29 → take n (framed d) ≡ p
      → Follows st (continued n st) d (Scanner.leaves_open p)
  unfolding answer_if
  on_follows n p u e = record {
    is_in_range = u;
    pending = e;
    answer = refl;
    counter = λ k. omega (arith, cap k);
  }

  last_follows : length d ≡ 24 → Follows st (ended st) d (Scanner.ends (framed d))
  unfolding answer_if bumped
  last_follows l = record {
    is_in_range = omega arith;
    pending = refl;
    answer = ap (λ (h : List ℕ). Some (three_of h)) (sym (take_at d tail 24 l));
    counter = counted;
  }
    where
      counted : (k : Counter) → counter_in k (ended st).stats
          ≡ min (counter_in k st + total counting k (Scanner.ends (framed d)).closed) counter_max
      counted frames = refl
      counted resyncs = omega (arith, cap resyncs)
      counted dropped = omega (arith, cap dropped)

  stray_follows : (b : ℕ) → Follows st (continued 0 (one_dropped st)) d (Scanner.strays b)
  unfolding answer_if bumped
  stray_follows b = record { is_in_range = omega arith; pending = refl; answer = refl; counter = counted }
    where
      counted : (k : Counter) → counter_in k (one_dropped st)
          ≡ min (counter_in k st + total counting k (Scanner.strays b).closed) counter_max
      counted frames = omega (arith, cap frames)
      counted resyncs = omega (arith, cap resyncs)
      counted dropped = refl

  -- A byte tried as the first of a frame: AA begins one, any other is stray.
  module _ (l : length d ≡ 24) (b : ℕ) where
    start_follows : Follows st (started st b) d (Scanner.start link b)
    unfolding started
    start_follows = go (eqb b 0xAA) refl
      where
        go : (x : Bool) → eqb b 0xAA ≡ x → Follows st (started st b) d (Scanner.start link b)
        go true e =
            let z : 0xAA ≡ b = sym (eqb-true b 0xAA e) in
            rw (e, step_on link [] b (rw (← z) (waits 1 d l (omega arith))))
            (on_follows 1 (b ∷ []) (omega arith) (ap (λ c. c ∷ []) z))
        go false e = rw (e, step_over link [] b (first_not_open b (eqb-false b 0xAA e))) (stray_follows b)

-- A frame that breaks: its bytes are counted as dropped before the offending byte is tried.
module _ (st : Stats) (cap : Capped st) (m : ℕ) (p : List ℕ) (l : length p ≡ suc m) where
  abandoned_counter : (k : Counter) → counter_in k (abandoned st (suc m))
      ≡ min (counter_in k st + adds k (broken p)) counter_max
  unfolding abandoned bumped
  abandoned_counter k = rw (ne_eqb (suc m) 0 (λ e. omega arith)) (go k)
    where
      go : (k : Counter) → counter_in k (record {
        frames = st.frames;
        resyncs = min (st.resyncs + 1) counter_max;
        dropped = min (st.dropped + suc m) counter_max;
      }) ≡ min (counter_in k st + adds k (broken p)) counter_max
      go frames = omega (arith, cap frames)
      go resyncs = refl
      go dropped = rw l

  abandoned_capped : Capped (abandoned st (suc m))
  abandoned_capped k = omega (arith, abandoned_counter k)

  break_follows : (x : Stepped) (d : List ℕ) (r : Scanner.Step) → Follows (abandoned st (suc m)) x d r
      → Follows st x d (Scanner.breaks p r)
  break_follows x d r f = record {
    is_in_range = f.is_in_range;
    pending = f.pending;
    answer = f.answer;
    counter = λ k. f.counter k ∙ rw (abandoned_counter k)
        (capped_append counter_max (counter_in k st) (adds k (broken p)) (total counting k r.closed));
  }

module _ (st : Stats) (cap : Capped st) (d : List ℕ) (l : length d ≡ 24) (b : ℕ) where
  off_follows : (n : ℕ) → n ≤ 29 → ¬ Open (take n (framed d) ++ (b ∷ []))
      → Follows st (started (abandoned st n) b) d (Scanner.step link (take n (framed d)) b)
  unfolding abandoned
  off_follows zero u ne = start_follows st cap d l b
  off_follows (suc m) u ne =
      let p = take (suc m) (framed d) in
      let long : length p ≡ suc m = length-take-le (suc m) (framed d) (omega (arith, framed_length d l)) in
      rw (step_over link p b ne) (break_follows st cap m p long (started (abandoned st (suc m)) b) d
      (Scanner.start link b) (start_follows (abandoned st (suc m)) (abandoned_capped st cap m p long) d l b))

  by_turn : (n : ℕ) (u : n ≤ 29) → Turn n u st d l b
      → Follows st (step_of n st b) (stored n d b) (Scanner.step link (take n (framed d)) b)
  by_turn n u (goes_on h e q) =
      let room : length (stored n d b) ≡ 24 = stored_length n d b ∙ l in
      rw (e, step_on link (take n (framed d)) b (rw (← q) (waits (suc n) (stored n d b) room (omega arith))))
      (on_follows st cap (stored n d b) (n + 1) (take n (framed d) ++ (b ∷ [])) (omega arith) (rw add-one q))
  by_turn n u (goes_last e q) =
      let room : length (stored n d b) ≡ 24 = stored_length n d b ∙ l in
      rw (e, step_whole link (take n (framed d)) b (rw (← q) (is_frame_lem (stored n d b) room)), ← q)
      (last_follows st cap (stored n d b) room)
  by_turn n u (goes_off e s ne) = rw (e, s) (off_follows n u ne)

  -- The law: at every place in range.
  pub follows : (n : ℕ) → n ≤ 29
      → Follows st (step_of n st b) (stored n d b) (Scanner.step link (take n (framed d)) b)
  follows n u = by_turn n u (turn n u st d l b)
