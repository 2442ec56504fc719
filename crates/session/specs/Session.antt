-- The calls of a session as functions, which the contracts equal. Nobody needs to believe them: Claims.antt claims that
-- they move as request 2's machine does (Machine.antt, in the request's words), and that it leaves no choice.
--   awaited_word s       the awaited word, if any
--   is_busy s            a wait is on
--   is_closed s          the session s is closed
--   needs_open s c       s is closed, and the command c is not `EnableConfig`
--   after_sending c      the session after sending c
--   encoded_by c n       the answer to c for n bytes, by the encoder alone
--   answer_of s c n      the answer to c, sent into n bytes: the session's tests, then the encoder
--   refused_by e s       the outcome in the session s if e refuses
--   sent_as r s c        the outcome of sending c, by the answer r
--   send_of s c n        the outcome of sending c into n bytes; buffer_of s c out, the buffer afterwards
--   is_word w v          v is the word w, if there is one
--   after_success c      the session after the awaited success of c
--   after_ack s ok       the session after the awaited acknowledgement
--   received_as b s ok   the outcome of an acknowledgement; b says whether it was awaited
--   receive_of s f       the outcome of the frame f, or of none
--   give_up_of s          the session after giving up
use Rattle.std.specs.Prelude.{List, Bool, true, false, cond, not, ◌&&◌, ℕ, eqb, Some, None, Ok, Err}
use Rattle.std.specs.declared.option.Option.{Option}
use Rattle.std.specs.Option.{is_some}
use Rattle.std.specs.Result.{result_map_both}
use Rattle.std.specs.declared.result.Result.{Result}
use Rattle.writer.specs.Written.{write_result, buffer_after}
use Rattle.frame.specs.declared.Frame.{Frame}
use Rattle.frame.specs.declared.Frame.TheVariants as Is
use Rattle.command.specs.Command.{word_of, command_frame, unsupported}
use Rattle.command.specs.declared.Command.{Command}
use Rattle.session.specs.declared.Session.{Session}
use Rattle.session.specs.declared.Session.TheVariants.{Closed, Opening, Open, Waiting, Closing}
use Rattle.session.specs.declared.SessionError.{SessionError}
use Rattle.session.specs.declared.SessionError.TheVariants as Why
use Rattle.session.specs.declared.Sent.{Sent}
use Rattle.session.specs.declared.ReceiveResult.TheVariants as Receive
use Rattle.session.specs.declared.Received.{Received}

abbrev pub awaited_word : Session → Option ℕ
awaited_word Closed = None
awaited_word Opening = Some 0x00FF
awaited_word Open = None
awaited_word (Waiting c) = Some (word_of c)
awaited_word Closing = Some 0x00FE

abbrev pub is_busy : Session → Bool
is_busy s = is_some (awaited_word s)

abbrev pub is_closed : Session → Bool
is_closed Closed = true
is_closed Opening = false
is_closed Open = false
is_closed (Waiting c) = false
is_closed Closing = false

abbrev pub needs_open : Session → Command → Bool
needs_open s c = is_closed s && not (eqb (word_of c) 0x00FF)

abbrev pub after_sending : Command → Session
after_sending c = cond (eqb (word_of c) 0x00FF) Opening (cond (eqb (word_of c) 0x00FE) Closing (Waiting c))

abbrev pub encoded_by : Command → ℕ → Result ℕ SessionError
encoded_by c n = result_map_both (λ k. k) Why.Encoding (write_result (unsupported c) (command_frame c) n)

-- "8 is tested first, then 7, both before 2 and 4"
unfoldable pub answer_of : Session → Command → ℕ → Result ℕ SessionError
answer_of s c n = cond (is_busy s) (Err Why.Busy) (cond (needs_open s c) (Err Why.NotOpen) (encoded_by c n))

abbrev pub refused_by : SessionError → Session → Sent
refused_by e s = record { session = s; answer = Err e }

abbrev pub sent_as : Result ℕ SessionError → Session → Command → Sent
sent_as (Ok n) s c = record { session = after_sending c; answer = Ok n }
sent_as (Err e) s c = refused_by e s

unfoldable pub send_of : Session → Command → ℕ → Sent
send_of s c n = sent_as (answer_of s c n) s c

unfoldable pub buffer_of : Session → Command → List ℕ → List ℕ
buffer_of s c out =
    cond (is_busy s) out
    (cond (needs_open s c) out (buffer_after (unsupported c) (command_frame c) out))

abbrev pub is_word : Option ℕ → ℕ → Bool
is_word (Some w) v = eqb v w
is_word None v = false

abbrev pub after_success : Command → Session
after_success c = cond (eqb (word_of c) 0x00A3) Closed Open

-- without a wait there is no awaited acknowledgement
abbrev pub after_ack : Session → Bool → Session
after_ack Closed ok = Closed
after_ack Opening ok = cond ok Open Closed
after_ack Open ok = Open
after_ack (Waiting c) ok = cond ok (after_success c) Open
after_ack Closing ok = cond ok Closed Open

abbrev pub received_as : Bool → Session → Bool → Received
received_as true s ok = record { session = after_ack s ok; answer = Receive.Ended ok }
received_as false s ok = record { session = s; answer = Receive.Passed }

unfoldable pub receive_of : Session → Option Frame → Received
receive_of s (Some (Is.Ack a)) = received_as (is_word (awaited_word s) a.word) s a.ok
receive_of s (Some (Is.Report r)) = received_as false s false
receive_of s None = received_as false s false

unfoldable pub give_up_of : Session → Session
give_up_of s = cond (is_busy s) Closed s
