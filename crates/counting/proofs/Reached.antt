-- Which parsers bytes lead to: the parser itself, what further bytes lead to, and what a read leaves.
use mathlib.Core.Path.{◌≡◌, sym, ap, ◌∙◌}
use mathlib.Core.List.{List, [], ◌++◌}
use Prim.Native.Nat.{ℕ}
use lib.Dec.{ltb}
use lib.ListN.{length, take}
use Rattle.std.specs.Prelude.{Result}
use Rattle.wire.specs.Bytes.{Bytes}
use Rattle.wire.proofs.Bytes.{bytes_append}
use Rattle.engine.specs.Calls.{feeds}
use Rattle.parser.specs.Claims.{left}
use Rattle.parser.specs.declared.Parser.{Parser}
use Rattle.counting.specs.Reached.{Reached, read_len, turn_of, Turned}
use Rattle.counting.specs.declared.Turn.{Turn}
use Rattle.counting.proofs.Appended.{left_append}

pub reached_start : {p q : Parser} → q ≡ p → Reached p q
reached_start e = record { bytes = []; are_bytes = tt; fed = e }

pub reached_on : (p q r : Parser) → Reached p q → Reached q r → Reached p r
reached_on p q r h k = record {
  bytes = h.bytes ++ k.bytes;
  are_bytes = bytes_append h.bytes k.bytes h.are_bytes k.are_bytes;
  fed = k.fed ∙ ap (λ (x : Parser). left x (feeds k.bytes)) h.fed ∙ sym (left_append p h.bytes k.bytes);
}

-- A read of n bytes feeds the first n bytes of the buffer.
pub turned_by : {E : Type 0} (p q : Parser) (n : ℕ) (buf : List ℕ) (got : Result ℕ E) → n ≡ read_len got (length buf)
    → q ≡ left p (feeds (take n buf)) → Bytes (take n buf)
    → (◌≡◌ {A = Turn} (record { parser = q; more = ltb 0 n }) (turn_of p buf got))
    × Bytes (take (read_len got (length buf)) buf)
turned_by p q n buf got e f h = (rw (f, e), rw (← e) h)

-- What a read leaves is reached by the bytes that it gave.
pub turned_reached : (p : Parser) (r : Turn) → Turned p r → Reached p r.parser
turned_reached p r t = record {
  bytes = take (read_len t.got (length t.buf)) t.buf;
  are_bytes = t.are_bytes;
  fed = ap (λ (x : Turn). x.parser) t.turned;
}
