-- Reading a command frame: the answer is the command that encodes to the bytes.
--   EncodesTo c s    the command c encodes to the bytes s
--   ReadTo s r       the reader may answer r for s, by one of three rules of document 01
--   OneAnswer s      these rules leave no choice
--   returned_read r   what the answer r returns, by the table's column "Returned": the number, and the command, if any
--   ReadCauses s r   the answer r gives each number exactly in its cause, and a command exactly if it encodes to s
--   commands         the writer and the reader of commands
use Rattle.std.specs.Prelude.{◌≡◌, ◌↔◌, ◌⊎◌, List, true, ℕ, Some, None, Ok, Err}
use Rattle.std.specs.Result.{result_map_both}
use Rattle.std.specs.declared.option.Option.{Option}
use Rattle.std.specs.declared.result.Result.{Result}
use Rattle.refusal.specs.Refusal.{Returned, accepted, returned}
use Rattle.refusal.specs.declared.Error.{Error}
use Rattle.refusal.specs.declared.Error.TheVariants.{InvalidFormat, UnknownCommand}
use Rattle.command_reader.specs.CommandFrame.{IsCommandFrame}
use Rattle.writer.specs.RoundTrip.{Codec}
use Rattle.command.specs.Command.{command_frame, encodable, unsupported}
use Rattle.command.specs.declared.Command.{Command}

abbrev pub EncodesTo : Command → List ℕ → Type 0
EncodesTo c s = (encodable c ≡ true) × (s ≡ command_frame c)

pub data ReadTo (s : List ℕ) : Result Command Error → Type 0 where
  -- the command that encodes to s
  is_command : (c : Command) → EncodesTo c s → ReadTo s (Ok c)
  -- "framed, ACK bit clear, word present, yet no command encodes to these bytes"
  is_unknown : IsCommandFrame s → ((c : Command) → EncodesTo c s → ⊥) → ReadTo s (Err UnknownCommand)
  -- "gives 1 for framing, for a report header, for data under two bytes and for a set ACK bit"
  is_invalid : (IsCommandFrame s → ⊥) → ReadTo s (Err InvalidFormat)

abbrev pub OneAnswer : List ℕ → Type 0
OneAnswer s = (p q : Result Command Error) → ReadTo s p → ReadTo s q → p ≡ q

abbrev pub returned_read : Result Command Error → Returned (Option Command)
returned_read r = returned None (result_map_both (λ c. Some c) (λ e. e) r)

pub record ReadCauses (s : List ℕ) (r : Result Command Error) : Type 0 where
  -- the command is given exactly if it encodes to s
  pub read : (c : Command) → (returned_read r ≡ accepted (Some c)) ↔ EncodesTo c s
  pub unique : (b c : Command) → EncodesTo b s → EncodesTo c s → b ≡ c
  -- 1 is given exactly if s is no such frame, 5 exactly if it is one to which no command encodes
  pub invalid : ((returned_read r).number ≡ 1) ↔ (IsCommandFrame s → ⊥)
  pub unknown : ((returned_read r).number ≡ 5) ↔ IsCommandFrame s × ((c : Command) → EncodesTo c s → ⊥)
  -- no other number is given
  pub total : ((returned_read r).number ≡ 0) ⊎ (((returned_read r).number ≡ 1) ⊎ ((returned_read r).number ≡ 5))
  -- "number, other fields 0"
  pub zeros : ((returned_read r).number ≡ 0 → ⊥) → ((returned_read r).needed ≡ 0) × ((returned_read r).value ≡ None)

-- "every command": any string is within the encoder's limits, and is kept
abbrev pub commands : Codec Command
commands = record {
  refusal = unsupported;
  number = 2;
  frame = command_frame;
  Reads = λ s c. ReadTo s (Ok c);
  Within = λ s. Unit {0};
  Kept = λ s. Unit {0};
}
