-- What is claimed of a session: its calls move as request 2's machine does.
--   Called s e t r       the event e on the session s left t, with the answer r: the machine moves so, and only so
--   session_call          the calls of a session as a machine: the session that each leaves, and its answer
--   RunsAs s es          the events es on the session s are a conversation of request 2's machine, which has no other
--   AnyRun s             RunsAs holds for any events, in any number and order
--   AnySession           AnyRun holds from any session, also one made by hand
--   SendCauses s c n r   the answer r to the command c, sent into n bytes, has each number exactly in its cause
--   OutsideRefused s m t r   in the session s the farthest gates m and t get 2 exactly if it is open and one is outside
--   FarthestSent s c r   request 7: OutsideRefused, if the command c is a `SetMaxGates`
--   Success c f          the frame f acknowledges the command c with success
--   OpensAndCloses s     from s, a successful `EnableConfig` opens the session and a successful `EndConfig` closes it
use Rattle.std.specs.Prelude.{◌≡◌, ◌≢◌, ◌↔◌, ◌⊎◌, List, [], ◌∷◌, true, ℕ, ◌≤◌, length, Some}
use Rattle.std.specs.declared.result.Result.{Result}
use Rattle.refusal.specs.Refusal.{Returned}
use Rattle.frame.specs.declared.Frame.{Frame}
use Rattle.frame.specs.declared.Frame.TheVariants as Is
use Rattle.command.specs.Command.{word_of, command_frame}
use Rattle.command.specs.Claims.{Outside}
use Rattle.command.specs.declared.Command.{Command}
use Rattle.command.specs.declared.Command.TheVariants.{EnableConfig, EndConfig, SetMaxGates}
use Rattle.engine.specs.Runs.{Machine, history, final}
use Rattle.session.specs.declared.Session.{Session}
use Rattle.session.specs.declared.Session.TheVariants.{Closed, Open}
use Rattle.session.specs.declared.SessionError.{SessionError}
use Rattle.session.specs.Returned.{returned_send}
use Rattle.session.specs.Session.{awaited_word, send_of, buffer_of, receive_of, give_up_of}
use Rattle.session.specs.Machine.{Event, send, frame, give_up, ask, Response, sent, received, gave_up, awaiting}
use Rattle.session.specs.Machine.{Refuses, Sendable, Moves, Conversation}

pub record Called (s : Session) (e : Event) (t : Session) (r : Response) : Type 0 where
  -- the machine moves so
  pub moved : Moves s e t r
  -- and in no other way
  pub only : (u : Session) (q : Response) → Moves s e u q → (u ≡ t) × (q ≡ r)

abbrev pub session_call : Machine Session Event Response
session_call s (send c out) =
    ((send_of s c (length out)).session, sent (returned_send (send_of s c (length out)).answer) (buffer_of s c out))
session_call s (frame f) = ((receive_of s f).session, received (receive_of s f).answer)
session_call s give_up = (give_up_of s, gave_up)
session_call s ask = (s, awaiting (awaited_word s))

-- `Called` and `SendCauses` are proved from both fields, for one event; `OpensAndCloses` from `only`, for two and four.
pub record RunsAs (s : Session) (es : List Event) : Type 0 where
  -- "Any run of calls and frames answers as this machine does"
  pub run : Conversation s es (history session_call s es) (final session_call s es)
  -- and the machine leaves no choice
  pub only : (rs : List Response) (t : Session) → Conversation s es rs t
      → (rs ≡ history session_call s es) × (t ≡ final session_call s es)

abbrev pub AnyRun : Session → Type 0
AnyRun s = (es : List Event) → RunsAs s es

-- `Called`, on each call of any session, is proved from this.
abbrev pub AnySession : Type 0
AnySession = (s : Session) → AnyRun s

pub record SendCauses (s : Session) (c : Command) (n : ℕ) (r : Result ℕ SessionError) : Type 0 where
  -- a number other than 0 is returned exactly in its cause, with exactly what that cause says beside it
  pub refused : (q : Returned ℕ) → (returned_send r ≡ q) × (q.number ≢ 0) ↔ Refuses s c n q
  -- 0 is returned exactly if the command may be sent, its values are good and its frame fits
  pub accepted : (returned_send r).number ≡ 0 ↔ Sendable s c n

-- "in the place where gates above 8 get it", so after 8 and 7
abbrev pub OutsideRefused : Session → (moving stationary : ℕ) → Result ℕ SessionError → Type 0
OutsideRefused s m t r = (returned_send r).number ≡ 2 ↔ (s ≡ Open) × (Outside m ⊎ Outside t)

-- The seconds are a number of two bytes.
abbrev pub FarthestSent : Session → Command → Result ℕ SessionError → Type 0
FarthestSent s c r = (m t n : ℕ) → n ≤ 65535 → c ≡ SetMaxGates m t n → OutsideRefused s m t r

abbrev pub Success : Command → Frame → Type 0
Success c (Is.Ack a) = (a.word ≡ word_of c) × (a.ok ≡ true)
Success c (Is.Report r) = ⊥

pub record OpensAndCloses (s : Session) : Type 0 where
  -- after `EnableConfig` and the acknowledgement of its success the session is open
  pub opened : (out : List ℕ) (f : Frame) → length (command_frame EnableConfig) ≤ length out → Success EnableConfig f
      → final session_call s (send EnableConfig out ∷ frame (Some f) ∷ []) ≡ Open
  -- and after `EndConfig` and the acknowledgement of its success it is closed again
  pub closed : (out rest : List ℕ) (f g : Frame) → length (command_frame EnableConfig) ≤ length out
      → length (command_frame EndConfig) ≤ length rest → Success EnableConfig f → Success EndConfig g
      → final session_call s (send EnableConfig out ∷ frame (Some f) ∷ send EndConfig rest ∷ frame (Some g) ∷ [])
      ≡ Closed
