-- A parser that was fed from outside: no contract can name the bytes that are read there.
--   Reached p q        some bytes, fed to the parser p one by one, leave q
--   read_len r n       how many bytes a read that answered r gave, for a buffer of n bytes: none if it failed
--   turn_of p buf got   the parser p after a read that answered `got` for the buffer buf, and whether it gave any byte
--   Turned p r         r is what some read makes of p
use Rattle.std.specs.Prelude.{◌≡◌, List, ℕ, ltb, min, length, take, Result, Ok, Err}
use Rattle.std.specs.declared.io.Error.{Error}
use Rattle.wire.specs.Bytes.{Bytes}
use Rattle.engine.specs.Calls.{feeds}
use Rattle.parser.specs.Claims.{left}
use Rattle.parser.specs.declared.Parser.{Parser}
use Rattle.counting.specs.declared.Turn.{Turn}

pub record Reached (p q : Parser) : Type 0 where
  pub bytes : List ℕ
  pub are_bytes : Bytes bytes
  pub fed : q ≡ left p (feeds bytes)

abbrev pub read_len : {E : Type 0} → Result ℕ E → ℕ → ℕ
read_len (Ok k) n = min k n
read_len (Err e) n = 0

abbrev pub turn_of : {E : Type 0} → Parser → List ℕ → Result ℕ E → Turn
turn_of p buf got =
    let n = read_len got (length buf) in
    record { parser = left p (feeds (take n buf)); more = ltb 0 n }

pub record Turned (p : Parser) (r : Turn) : Type 0 where
  pub buf : List ℕ
  pub got : Result ℕ Error
  pub are_bytes : Bytes (take (read_len got (length buf)) buf)
  pub turned : r ≡ turn_of p buf got
