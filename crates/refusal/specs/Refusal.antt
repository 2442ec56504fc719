-- The refusals, by document 01's table "What each refusal means".
--   number_of e       the number that the table gives to the cause e
--   needed_of e       the bytes needed, which come with number 4; 0 with every other number
--   or_error o v      the answer by an error: the error in o, or the value v if there is none
--   refusal_of a      the number of the answer a, 0 if nothing is refused
--   needed_by a       the bytes needed that come with that number
--   Returned A       what a call returns, by the table's column "Returned": a number, the bytes needed, and a value
--   accepted v       nothing is refused: number 0, and the value v
--   refused z e      e refuses: "number, other fields 0", or "number and bytes needed"; z has every field 0
--   returned z a     what a call with the answer a returns: the value in it, or the refusal and z
use Rattle.std.specs.Prelude.{ℕ, Some, None, Ok, Err}
use Rattle.std.specs.declared.option.Option.{Option}
use Rattle.std.specs.declared.result.Result.{Result}
use Rattle.refusal.specs.declared.Error.{Error}
use Rattle.refusal.specs.declared.Error.TheVariants.{InvalidFormat, Unsupported, Hardware, BufferTooSmall}
use Rattle.refusal.specs.declared.Error.TheVariants.{UnknownCommand, Unrepresentable}

abbrev pub number_of : Error → ℕ
number_of InvalidFormat = 1
number_of Unsupported = 2
number_of Hardware = 3
number_of (BufferTooSmall n) = 4
number_of UnknownCommand = 5
number_of Unrepresentable = 6

abbrev pub needed_of : Error → ℕ
needed_of InvalidFormat = 0
needed_of Unsupported = 0
needed_of Hardware = 0
needed_of (BufferTooSmall n) = n
needed_of UnknownCommand = 0
needed_of Unrepresentable = 0

abbrev pub or_error : {A E : Type 0} → Option E → A → Result A E
or_error None v = Ok v
or_error (Some e) v = Err e

abbrev pub refusal_of : {A : Type 0} → Result A Error → ℕ
refusal_of (Ok v) = 0
refusal_of (Err e) = number_of e

abbrev pub needed_by : {A : Type 0} → Result A Error → ℕ
needed_by (Ok v) = 0
needed_by (Err e) = needed_of e

pub record Returned (A : Type 0) : Type 0 where
  pub number : ℕ
  pub needed : ℕ
  pub value : A

abbrev pub accepted : {A : Type 0} → A → Returned A
accepted v = record { number = 0; needed = 0; value = v }

abbrev pub refused : {A : Type 0} → A → Error → Returned A
refused z e = record { number = number_of e; needed = needed_of e; value = z }

abbrev pub returned : {A : Type 0} → A → Result A Error → Returned A
returned z (Ok v) = accepted v
returned z (Err e) = refused z e
