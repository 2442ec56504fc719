-- What one byte does to a well-formed scan, to the counters and to the buffer.
--   step_header, step_len, step_data, step_tail   the step of a byte in each state; step_in_state, by the state
--   step_of limit c st b   the step of the byte b: the scan c and the counters st after it, and the frame that it ended
--   stored c buf b        the buffer after it: a data byte is stored at the scan's position; stored_in, by the state
use Rattle.std.specs.Prelude.{List, cond, ℕ, ◌+◌, ◌*◌, ltb, eqb, get_or, set}
use Rattle.wire.specs.Family.{header, tail}
use Rattle.wire.specs.declared.Kind.{Kind}
use Rattle.stream.specs.Length.{in_range}
use Rattle.scan.specs.Scan.{at, hunting}
use Rattle.scan.specs.Start.{frame_ended, continued, abandoned, start_of}
use Rattle.scan.specs.declared.State.{State}
use Rattle.scan.specs.declared.State.TheVariants.{Header, Len, Data, Tail}
use Rattle.scan.specs.declared.Scan.{Scan}
use Rattle.scan.specs.declared.stats.Stats.{Stats}
use Rattle.scan.specs.declared.stats.Stepped.{Stepped}

-- b is the header's byte m; or another, which is tried as a new start
abbrev pub step_header : Kind → ℕ → Stats → ℕ → Stepped
step_header k m st b = cond (eqb m 0) (start_of st b) (cond (eqb b (get_or (header k) m 0))
    (cond (eqb m 3) (continued (at Len k 0 0 0) st) (continued (at Header k (m + 1) 0 0) st))
    (start_of (abandoned st m) b))

-- b is the first length byte; or the second, which makes a length in range or is tried as a new start
abbrev pub step_len : ℕ → Kind → ℕ → ℕ → Stats → ℕ → Stepped
step_len limit k m n st b = cond (eqb m 0) (continued (at Len k 1 b 0) st) (cond (in_range limit (n + 256 * b))
    (continued (at Data k 0 (n + 256 * b) 0) st)
    (start_of (abandoned st 5) b))

abbrev pub step_data : Kind → ℕ → ℕ → Stats → Stepped
step_data k n p st = cond (ltb (p + 1) n) (continued (at Data k 0 n (p + 1)) st) (continued (at Tail k 0 n n) st)

-- b is the tail's byte m, and may end the frame; or another, which alone is tried as a new start
abbrev pub step_tail : Kind → ℕ → ℕ → Stats → ℕ → Stepped
step_tail k m n st b = cond (eqb b (get_or (tail k) m 0))
    (cond (eqb m 3) (record { scan = hunting; stats = st; ended = frame_ended k n })
    (continued (at Tail k (m + 1) n n) st))
    (start_of (abandoned st (6 + n + m)) b)

abbrev pub step_in_state : ℕ → State → Kind → ℕ → ℕ → ℕ → Stats → ℕ → Stepped
step_in_state limit Header k m n p st b = step_header k m st b
step_in_state limit Len k m n p st b = step_len limit k m n st b
step_in_state limit Data k m n p st b = step_data k n p st
step_in_state limit Tail k m n p st b = step_tail k m n st b

unfoldable pub step_of : ℕ → Scan → Stats → ℕ → Stepped
step_of limit c st b = step_in_state limit c.state c.kind c.matched c.len c.pos st b

abbrev pub stored_in : State → ℕ → List ℕ → ℕ → List ℕ
stored_in Header p buf b = buf
stored_in Len p buf b = buf
stored_in Data p buf b = set buf p b
stored_in Tail p buf b = buf

unfoldable pub stored : Scan → List ℕ → ℕ → List ℕ
stored c buf b = stored_in c.state c.pos buf b
