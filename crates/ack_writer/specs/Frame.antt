-- The frame of an acknowledgement, which is one of the command family: "Data are word, status, payload".
--   ack_data w s p              the data: the word w with the ACK bit, 0100, set; the status s; the payload p
--   ack_frame w s p             the frame around these data
--   writable w ok s p          whether the value can be written: the ACK bit of its word is clear, `ok` agrees with its
--                              status, and its payload has at most 50 bytes
--   unrepresentable w ok s p   refusal 6, unless it can be written
use Rattle.std.specs.Prelude.{List, ◌++◌, Bool, ◌&&◌, ℕ, ◌+◌, ◌/◌, ◌%◌, eqb, leb, length}
use Rattle.std.specs.Bool.{beq}
use Rattle.std.specs.declared.option.Option.{Option}
use Rattle.wire.specs.Number.{le_bytes}
use Rattle.wire.specs.Family.{framed}
use Rattle.wire.specs.declared.Kind.TheVariants as Family
use Rattle.refusal.specs.declared.Error.{Error}
use Rattle.refusal.specs.declared.Error.TheVariants.{Unrepresentable}
use Rattle.writer.specs.Written.{unless}

-- "bit 0100 of the word set": it is clear in a word that can be written, so 0100 is added
unfoldable pub ack_data : ℕ → ℕ → List ℕ → List ℕ
ack_data w s p = le_bytes 2 (w + 0x0100) ++ (le_bytes 2 s ++ p)

abbrev pub ack_frame : ℕ → ℕ → List ℕ → List ℕ
ack_frame w s p = framed Family.Command (ack_data w s p)

-- 6 is for "a value that the reader can't give .. ACK payload above 50". The reader clears the bit, and "`ok` is read
-- as status 0": "An ACK value whose `ok` disagrees with its status gets 6."
unfoldable pub writable : ℕ → Bool → ℕ → List ℕ → Bool
writable w ok s p = eqb (w / 0x0100 % 2) 0 && (beq ok (eqb s 0) && leb (length p) 50)

abbrev pub unrepresentable : ℕ → Bool → ℕ → List ℕ → Option Error
unrepresentable w ok s p = unless (writable w ok s p) Unrepresentable
