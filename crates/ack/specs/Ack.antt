-- Acknowledgements: "Data are word, status, payload". The checks in document 01's order, and what data that pass them
-- are read as.
--   word_in s, status_in s   the word and the status of the data s, two bytes each
--   a1, a2          the tests of A1 and A2
--   ack_checks       A1, A2, in this order
--   ack_of s         the acknowledgement that data which pass them are read as
--   checked_ack s    the reader's answer to the data s
--   parsed_ack s     the reader's answer, with the refusal in place of the check
--   no_ack           every field 0, which is returned beside a refusal
use Rattle.std.specs.Prelude.{List, [], ◌∷◌, Bool, false, ℕ, ◌-◌, ◌/◌, ◌%◌, leb, eqb, length, take, drop}
use Rattle.std.specs.declared.result.Result.{Result}
use Rattle.wire.specs.Number.{little}
use Rattle.refusal.specs.Check.{Checks, checked_by, told_by}
use Rattle.refusal.specs.declared.Check.{Check}
use Rattle.refusal.specs.declared.Check.TheVariants.{A1, A2}
use Rattle.refusal.specs.declared.Error.{Error}
use Rattle.ack.specs.declared.Ack.{Ack}

abbrev pub word_in : List ℕ → ℕ
word_in s = little (take 2 s)

abbrev pub status_in : List ℕ → ℕ
status_in s = little (take 2 (drop 2 s))

-- "A1: four bytes. A2: bit 0100 of the word set"
abbrev pub a1 : List ℕ → Bool
a1 s = leb 4 (length s)

abbrev pub a2 : List ℕ → Bool
a2 s = eqb (word_in s / 0x0100 % 2) 1

abbrev pub ack_checks : Checks
ack_checks = (A1, a1) ∷ (A2, a2) ∷ []

-- "it is then cleared": the bit is set, so 0100 is subtracted; "`ok` is read as status 0"; the payload is the rest
unfoldable pub ack_of : List ℕ → Ack
ack_of s = record {
  word = word_in s - 0x0100;
  ok = eqb (status_in s) 0;
  status = status_in s;
  payload = record { start = 4; len = length s - 4 };
}

unfoldable pub checked_ack : List ℕ → Result Ack Check
checked_ack s = checked_by ack_checks s (ack_of s)

abbrev pub parsed_ack : List ℕ → Result Ack Error
parsed_ack s = told_by (checked_ack s)

abbrev pub no_ack : Ack
no_ack = record { word = 0; ok = false; status = 0; payload = record { start = 0; len = 0 } }
