-- A payload's span: its start and length in given bytes.
--   payload_in s p   the bytes of s at the span p
use Rattle.std.specs.Prelude.{List, [], cond, ℕ, ◌+◌, leb, length, take, drop}
use Rattle.ack.specs.declared.span.Span.{Span}

-- "a payload not inside them counts as empty"
unfoldable pub payload_in : List ℕ → Span → List ℕ
payload_in s p = cond (leb (p.start + p.len) (length s)) (take p.len (drop p.start s)) []
