-- What the calls do to a parser: a byte fed, a slice fed, a reset. A place is the number of pending bytes.
--   no_stats            every counter 0
--   put buf n st       the parser with the buffer buf, the place n and the counters st
--   fresh              a parser that has taken nothing: every byte and number 0
--   or_reset n          the place n, or 0 if it is out of range: "as if reset came first"
--   among n x y        x at a place of the targets, y at one of the header or the tail
--   due_at n            the byte that is due at a place of the header or the tail
--   Stepped            what a step leaves: the place and the counters; and whether it ended a frame
--   progress_of s      the place and the counters that the step s leaves
--   continued n st     the step that leaves the place n and the counters st, and ends no frame
--   ended st           the step that ends a frame
--   abandoned st n     the counters after a broken start of n bytes
--   one_dropped st      the counters after a stray byte
--   started st b       the step of the byte b, tried as the first of a frame
--   where_due n st b    the step of b in the header or the tail; step_of n st b, at any place
--   stored n buf b     the buffer after the byte b
--   answer_if e d       the targets of the bytes d if a frame ended, else "no frame"
--   stepped p b        a parser in range after the byte b, and the answer; run_of p bs, after the slice bs
--   ran_to p n o        the outcome that leaves the parser p: o bytes end a frame, or all n are taken and end none
--   then_run one more   `one`, the outcome of a byte, if it ended a frame; else `more` after it
--   still p            the parser p, its place reset if it is out of range
--   feed_of p b         any parser after the byte b, and the answer; feed_slice_of p bs, after the slice bs
--   reset_of p          any parser after a reset
--   unfinished_of p     the length of the frame in progress
-- The papers leave this free: a byte of the buffer changes only where a target's byte is stored.
use Rattle.std.specs.Prelude.{List, [], ◌∷◌, Bool, true, false, cond, ℕ, suc, ◌+◌, ◌-◌, eqb, leb, ltb, get_or, set, replicate, Some, None, is_some}
use Rattle.std.specs.declared.option.Option.{Option}
use Rattle.wire.specs.Counter.{bumped}
use Rattle.ld2450.specs.Target.{three_of}
use Rattle.ld2450.specs.Frame.{header, tail}
use Rattle.ld2450_parser.specs.Stream.{Answer, nothing}
use Rattle.ld2450_parser.specs.declared.Stats.{Stats}
use Rattle.ld2450_parser.specs.declared.Parser.{Parser}
use Rattle.ld2450_parser.specs.declared.Fed.{Fed}
use Rattle.ld2450_parser.specs.declared.Taken.{Taken}
use Rattle.ld2450_parser.specs.declared.steps.Progress.{Progress}

abbrev pub no_stats : Stats
no_stats = record { frames = 0; resyncs = 0; dropped = 0 }

abbrev pub put : List ℕ → ℕ → Stats → Parser
put buf n st = record { buf = buf; at = n; stats = st }

abbrev pub fresh : Parser
fresh = put (replicate 24 0) 0 no_stats

unfoldable pub or_reset : ℕ → ℕ
or_reset n = cond (leb n 29) n 0

abbrev pub among : {A : Type 0} → ℕ → A → A → A
among n x y = cond (ltb n 4) y (cond (ltb n 28) x y)

unfoldable pub due_at : ℕ → ℕ
due_at n = cond (ltb n 4) (get_or header n 0) (get_or tail (n - 28) 0)

pub record Stepped : Type 0 where
  pub at : ℕ
  pub stats : Stats
  pub ended : Bool

abbrev pub progress_of : Stepped → Progress
progress_of s = record { at = s.at; stats = s.stats }

abbrev pub continued : ℕ → Stats → Stepped
continued n st = record { at = n; stats = st; ended = false }

abbrev pub ended : Stats → Stepped
ended st = record {
  at = 0;
  stats = record { frames = bumped st.frames 1; resyncs = st.resyncs; dropped = st.dropped };
  ended = true;
}

-- If no byte is pending, no frame breaks.
unfoldable pub abandoned : Stats → ℕ → Stats
abandoned st n = cond (eqb n 0) st (record {
  frames = st.frames;
  resyncs = bumped st.resyncs 1;
  dropped = bumped st.dropped n;
})

abbrev pub one_dropped : Stats → Stats
one_dropped st = record { frames = st.frames; resyncs = st.resyncs; dropped = bumped st.dropped 1 }

unfoldable pub started : Stats → ℕ → Stepped
started st b = cond (eqb b 0xAA) (continued 1 st) (continued 0 (one_dropped st))

unfoldable pub where_due : ℕ → Stats → ℕ → Stepped
where_due n st b = cond (eqb b (due_at n)) (cond (ltb n 29) (continued (n + 1) st) (ended st))
    (started (abandoned st n) b)

unfoldable pub step_of : ℕ → Stats → ℕ → Stepped
step_of n st b = among n (continued (n + 1) st) (where_due n st b)

unfoldable pub stored : ℕ → List ℕ → ℕ → List ℕ
stored n buf b = among n (set buf (n - 4) b) buf

unfoldable pub answer_if : Bool → List ℕ → Answer
answer_if e d = cond e (Some (three_of d)) nothing

unfoldable pub stepped : Parser → ℕ → Fed Answer
stepped p b =
    let s = step_of p.at p.stats b in
    let d = stored p.at p.buf b in
    record { parser = put d s.at s.stats; answer = answer_if s.ended d }

-- "bytes up to and including the end of the first whole frame": the next bytes are fed only if the byte ended no frame
abbrev pub then_run : Fed Answer → Fed Taken → Fed Taken
then_run one more = cond (is_some one.answer)
    (record { parser = one.parser; answer = record { count = 1; frame = one.answer } })
    (record {
      parser = more.parser;
      answer = record { count = suc more.answer.count; frame = more.answer.frame };
    })

unfoldable pub run_of : Parser → List ℕ → Fed Taken
run_of p [] = record { parser = p; answer = record { count = 0; frame = nothing } }
run_of p (b ∷ bs) = then_run (stepped p b) (run_of (stepped p b).parser bs)

abbrev pub ran_to : Parser → ℕ → Option ℕ → Fed Taken
ran_to p n None = record { parser = p; answer = record { count = n; frame = nothing } }
ran_to p n (Some k) = record { parser = p; answer = record { count = k; frame = Some (three_of p.buf) } }

abbrev pub still : Parser → Parser
still p = put p.buf (or_reset p.at) p.stats

unfoldable pub feed_of : Parser → ℕ → Fed Answer
feed_of p b = stepped (still p) b

unfoldable pub feed_slice_of : Parser → List ℕ → Fed Taken
feed_slice_of p bs = run_of (still p) bs

-- "`reset` forgets an unfinished frame and keeps the counters"
abbrev pub reset_of : Parser → Parser
reset_of p = put p.buf 0 p.stats

unfoldable pub unfinished_of : Parser → ℕ
unfinished_of p = or_reset p.at
