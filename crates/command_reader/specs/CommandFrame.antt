-- The frames of commands, known or not: "framed, ACK bit clear, word present".
--   ack_bit w           the ACK bit of a word, 0100
--   word_in s           the word of a frame: the first two bytes of its data, little-endian
--   IsCommandFrame s   s is a frame by the checks F1 to F4, of the command family; its data have the two bytes of a
--                      word, and the ACK bit of that word is clear
--   number_in s i       the two-byte number in s at place i, 0 if there are too few bytes
use Rattle.std.specs.Prelude.{◌≡◌, List, ℕ, ◌/◌, ◌%◌, ◌≤◌, length, take, unwrap_or, Some}
use Rattle.refusal.specs.Check.{Passes}
use Rattle.wire.specs.Number.{little, le16_at}
use Rattle.wire.specs.declared.Kind.TheVariants as Family
use Rattle.frame.specs.Envelope.{family, data_of, frame_checks}

abbrev pub ack_bit : ℕ → ℕ
ack_bit w = w / 256 % 2

abbrev pub word_in : List ℕ → ℕ
word_in s = little (take 2 (data_of s))

pub record IsCommandFrame (s : List ℕ) : Type 0 where
  -- "framed"
  pub checked : Passes frame_checks s
  -- not "a report header"
  pub headed : family s ≡ Some Family.Command
  -- "word present": not "data under two bytes"
  pub worded : 2 ≤ length (data_of s)
  -- "ACK bit clear"
  pub clear : ack_bit (word_in s) ≡ 0

unfoldable pub number_in : List ℕ → ℕ → ℕ
number_in s i = unwrap_or (le16_at s i) 0
