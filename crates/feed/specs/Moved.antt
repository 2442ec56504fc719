-- What fed bytes do to a scan, to the counters and to a lent buffer.
--   emitted e c st buf         the scan, the counters and the answer, after a step that ended the frame e, or none
--   buf_of limit c buf b        the buffer after the byte b
--   moved_of limit c st buf b   the scan, the counters and the answer after the byte b
--   run_moved r                 the scan, the counters and the answer after the run r
--   slice_buf_of, slice_moved_of   buf_of and moved_of for a slice
use Rattle.std.specs.Prelude.{List, ℕ, take, Some, None, is_ok}
use Rattle.std.specs.declared.option.Option.{Option}
use Rattle.std.specs.Result.{result_ok}
use Rattle.frame.specs.Frame.{decoded}
use Rattle.scan.specs.Scan.{or_reset}
use Rattle.step.specs.Step.{step_of, stored}
use Rattle.scan.specs.Start.{counted}
use Rattle.step.specs.Slice.{Run, run_of}
use Rattle.scan.specs.declared.Scan.{Scan}
use Rattle.scan.specs.declared.stats.Stats.{Stats}
use Rattle.scan.specs.declared.stats.Ended.{Ended}
use Rattle.frame.specs.declared.Frame.{Frame}
use Rattle.feed.specs.declared.feeding.Moved.{Moved}
use Rattle.feed.specs.declared.feeding.Taken.{Taken}

abbrev pub emitted : Option Ended → Scan → Stats → List ℕ → Moved (Option Frame)
emitted None c st buf = record { scan = c; stats = st; answer = None }
emitted (Some e) c st buf = record {
  scan = c;
  stats = counted (is_ok (decoded 4 e.kind (take e.len buf))) st;
  answer = result_ok (decoded 4 e.kind (take e.len buf));
}

unfoldable pub buf_of : ℕ → Scan → List ℕ → ℕ → List ℕ
buf_of limit c buf b = stored (or_reset limit c) buf b

unfoldable pub moved_of : ℕ → Scan → Stats → List ℕ → ℕ → Moved (Option Frame)
moved_of limit c st buf b =
    let r = step_of limit (or_reset limit c) st b in
    emitted r.ended r.scan r.stats (stored (or_reset limit c) buf b)

abbrev pub run_moved : Run → Moved Taken
run_moved r =
    let m = emitted r.scanned.ended r.scanned.scan r.scanned.stats r.buf in
    record { scan = m.scan; stats = m.stats; answer = record { count = r.scanned.taken; frame = m.answer } }

unfoldable pub slice_buf_of : ℕ → Scan → Stats → List ℕ → List ℕ → List ℕ
slice_buf_of limit c st buf bs = (run_of limit (or_reset limit c) st buf bs).buf

unfoldable pub slice_moved_of : ℕ → Scan → Stats → List ℕ → List ℕ → Moved Taken
slice_moved_of limit c st buf bs = run_moved (run_of limit (or_reset limit c) st buf bs)
