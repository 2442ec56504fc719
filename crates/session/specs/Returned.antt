-- What the answer to a command returns, by document 01's column "Returned" and request 2's new numbers.
--   session_number e   the number of the refusal e
--   session_needed e   the bytes needed, which come with 4; 0 with every other number
--   returned_send r    what the answer r returns: the number, and the bytes needed or the bytes written
use Rattle.std.specs.Prelude.{ℕ, Ok, Err}
use Rattle.std.specs.declared.result.Result.{Result}
use Rattle.refusal.specs.Refusal.{Returned, accepted, number_of, needed_of}
use Rattle.session.specs.declared.SessionError.{SessionError}
use Rattle.session.specs.declared.SessionError.TheVariants as Why

-- "New numbers: 7, a command other than `EnableConfig` in a closed session; 8, any command while opening, waiting or
-- closing"
abbrev pub session_number : SessionError → ℕ
session_number Why.NotOpen = 7
session_number Why.Busy = 8
session_number (Why.Encoding e) = number_of e

abbrev pub session_needed : SessionError → ℕ
session_needed Why.NotOpen = 0
session_needed Why.Busy = 0
session_needed (Why.Encoding e) = needed_of e

abbrev pub returned_send : Result ℕ SessionError → Returned ℕ
returned_send (Ok n) = accepted n
returned_send (Err e) = record { number = session_number e; needed = session_needed e; value = 0 }
