-- Which scans are out of range, and which bytes are pending: document 01, point 5.
--   OutOfRange limit c   the scan c has "fields out of range"; `limit` is 54 there
--   OrReset limit c r    the scan c is handled as r: "as if reset came first" if it is out of range, else as c itself
--   pending_of c buf      the pending bytes of a scan c in range, with its data bytes in buf; pending_in, by its fields
use Rattle.std.specs.Prelude.{◌≡◌, ◌≢◌, List, [], ◌∷◌, ◌++◌, ℕ, ◌<◌, take}
use Rattle.wire.specs.Number.{le_bytes}
use Rattle.wire.specs.Family.{header, tail}
use Rattle.wire.specs.declared.Kind.{Kind}
use Rattle.stream.specs.Length.{InRange}
use Rattle.scan.specs.Scan.{hunting}
use Rattle.scan.specs.declared.State.{State}
use Rattle.scan.specs.declared.State.TheVariants.{Header, Len, Data, Tail}
use Rattle.scan.specs.declared.Scan.{Scan}

pub data OutOfRange (limit : ℕ) (c : Scan) : Type 0 where
  -- "matched above 3 in a header or tail"
  header_matched : c.state ≡ Header → 3 < c.matched → OutOfRange limit c
  tail_matched : c.state ≡ Tail → 3 < c.matched → OutOfRange limit c
  -- "in the length, matched above 1, length above 255, or length not 0 with matched 0"
  length_matched : c.state ≡ Len → 1 < c.matched → OutOfRange limit c
  length_above : c.state ≡ Len → 255 < c.len → OutOfRange limit c
  length_early : c.state ≡ Len → c.len ≢ 0 → c.matched ≡ 0 → OutOfRange limit c
  -- "in data or tail, length outside 2 to 54"
  data_length : c.state ≡ Data → ¬ InRange limit c.len → OutOfRange limit c
  tail_length : c.state ≡ Tail → ¬ InRange limit c.len → OutOfRange limit c
  -- "position not below it in data, not equal to it in the tail"
  data_position : c.state ≡ Data → ¬ (c.pos < c.len) → OutOfRange limit c
  tail_position : c.state ≡ Tail → c.pos ≢ c.len → OutOfRange limit c

pub record OrReset (limit : ℕ) (c r : Scan) : Type 0 where
  pub out : OutOfRange limit c → r ≡ hunting
  pub inside : ¬ OutOfRange limit c → r ≡ c

abbrev pub pending_in : State → Kind → ℕ → ℕ → ℕ → List ℕ → List ℕ
-- as many bytes of the header as are matched
pending_in Header k m n p buf = take m (header k)
-- the header, and the first byte of the length once it is matched
pending_in Len k m n p buf = header k ++ take m (n ∷ [])
-- the header, the length, and as many data bytes as the position says
pending_in Data k m n p buf = header k ++ (le_bytes 2 n ++ take p buf)
-- the header, the length, all data bytes, and as many bytes of the tail as are matched
pending_in Tail k m n p buf = header k ++ (le_bytes 2 n ++ (take n buf ++ take m (tail k)))

unfoldable pub pending_of : Scan → List ℕ → List ℕ
pending_of c buf = pending_in c.state c.kind c.matched c.len c.pos buf
