-- Request 2 as a machine: a rule for each of its sentences, in its words, and the machine's runs.
--   Event              a command sent into a buffer, a frame of the module or none, giving up, or asking for the word
--                      that is awaited
--   Response           to a command: the number, the bytes needed and the bytes written, and the buffer afterwards; to
--                      a frame: that it passed, or that it ended the wait, with `ok` on or off; to giving up: nothing;
--                      to the question: the word, if one is awaited
--   Awaits s w         in the session s a wait is on, and the acknowledgement of the word w ends it
--   Idle s             no wait is on
--   Takes s c          the command c may be sent from the session s
--   Leads c t          sending the command c leads to the session t
--   number_alone k      the refusal k, with every other field 0
--   Refuses s c n r    the command c, for a buffer of n bytes, is refused in the session s, and r is returned
--   Sendable s c n     the command c may be sent from s, the module takes its values, and its frame fits n bytes
--   Ends s ok t        the awaited acknowledgement, with `ok` on or off, makes the session s the session t
--   Moves s e t r      at the event e the machine goes from s to t and responds r
--   Conversation s es rs t   the events es, one after another, lead from s to t, and the responses are rs
use Rattle.std.specs.Prelude.{◌≡◌, ◌≢◌, List, [], ◌∷◌, Bool, true, false, ℕ, ◌≤◌, ◌<◌, length, Some, None}
use Rattle.std.specs.declared.option.Option.{Option}
use Rattle.refusal.specs.Refusal.{Returned, accepted}
use Rattle.writer.specs.Written.{written}
use Rattle.frame.specs.declared.Frame.{Frame}
use Rattle.frame.specs.declared.Frame.TheVariants as Is
use Rattle.ack.specs.declared.Ack.{Ack}
use Rattle.command.specs.Command.{word_of, command_frame, encodable}
use Rattle.command.specs.declared.Command.{Command}
use Rattle.command.specs.declared.Command.TheVariants.{EnableConfig, EndConfig, Restart}
use Rattle.session.specs.declared.Session.{Session}
use Rattle.session.specs.declared.Session.TheVariants.{Closed, Opening, Open, Waiting, Closing}
use Rattle.session.specs.declared.ReceiveResult.{ReceiveResult}
use Rattle.session.specs.declared.ReceiveResult.TheVariants as Receive

pub data Event : Type 0 where
  send : (c : Command) (out : List ℕ) → Event
  frame : (f : Option Frame) → Event
  give_up : Event
  ask : Event

pub data Response : Type 0 where
  sent : (r : Returned ℕ) (out : List ℕ) → Response
  received : (r : ReceiveResult) → Response
  gave_up : Response
  awaiting : (w : Option ℕ) → Response

-- "waiting for a word": a waiting session holds the command whose word it awaits; opening awaits the word of
-- `EnableConfig`, closing that of `EndConfig`
pub data Awaits : Session → ℕ → Type 0 where
  opening : Awaits Opening (word_of EnableConfig)
  waiting : (c : Command) → Awaits (Waiting c) (word_of c)
  closing : Awaits Closing (word_of EndConfig)

abbrev pub Idle : Session → Type 0
Idle s = (w : ℕ) → ¬ Awaits s w

-- "`EnableConfig` is sent from closed or open", "Other commands go from open"
pub data Takes : Session → Command → Type 0 where
  enabling : Takes Closed EnableConfig
  from_open : (c : Command) → Takes Open c

pub data Leads : Command → Session → Type 0 where
  -- "`EnableConfig` .. leads to opening"
  to_opening : Leads EnableConfig Opening
  -- "`EndConfig` leads to closing"
  to_closing : Leads EndConfig Closing
  -- after any other command the session waits
  to_waiting : (c : Command) → c ≢ EnableConfig → c ≢ EndConfig → Leads c (Waiting c)

-- "Each new number .. is returned with the answer's other fields 0"
abbrev pub number_alone : ℕ → Returned ℕ
number_alone k = record { number = k; needed = 0; value = 0 }

pub data Refuses : Session → Command → ℕ → Returned ℕ → Type 0 where
  -- "8, any command while opening, waiting or closing"
  busy : (s : Session) (c : Command) (n w : ℕ) → Awaits s w → Refuses s c n (number_alone 8)
  -- "7, a command other than `EnableConfig` in a closed session"
  not_open : (c : Command) (n : ℕ) → c ≢ EnableConfig → Refuses Closed c n (number_alone 7)
  -- "both before 2 and 4": the encoder gives these two, to a command that may be sent
  unsupported : (s : Session) (c : Command) (n : ℕ) → Takes s c → encodable c ≡ false → Refuses s c n (number_alone 2)
  short : (s : Session) (c : Command) (n : ℕ) → Takes s c → encodable c ≡ true → n < length (command_frame c)
      → Refuses s c n (record { number = 4; needed = length (command_frame c); value = 0 })

pub record Sendable (s : Session) (c : Command) (n : ℕ) : Type 0 where
  pub taken : Takes s c
  pub good : encodable c ≡ true
  pub room : length (command_frame c) ≤ n

pub data Ends : Session → Bool → Session → Type 0 where
  -- "opening becomes open on success (`ok` on) and closed on failure"
  opened : Ends Opening true Open
  not_opened : Ends Opening false Closed
  -- "closing becomes closed on success and open on failure"
  closed : Ends Closing true Closed
  not_closed : Ends Closing false Open
  -- "a successful `Restart` closes"
  restarted : Ends (Waiting Restart) true Closed
  -- "any other returns to open": a failed `Restart`, and any other command
  not_restarted : Ends (Waiting Restart) false Open
  other : (c : Command) (ok : Bool) → c ≢ Restart → Ends (Waiting c) ok Open

pub data Moves : Session → Event → Session → Response → Type 0 where
  -- "A refused command leaves the session where it was", and the buffer as it was
  refused : (s : Session) (c : Command) (out : List ℕ) (r : Returned ℕ) → Refuses s c (length out) r
      → Moves s (send c out) s (sent r out)
  -- a command that is not refused is encoded into the front of the buffer; the bytes after it stay
  goes : (s t : Session) (c : Command) (out : List ℕ) → Sendable s c (length out) → Leads c t
      → Moves s (send c out) t (sent (accepted (length (command_frame c))) (written out (command_frame c)))
  -- "The awaited ACK ends the wait", "The answer to a frame says whether it ended the wait, and if so whether `ok` was
  -- on"
  ends : (s t : Session) (a : Ack) → Awaits s a.word → Ends s a.ok t
      → Moves s (frame (Some (Is.Ack a))) t (received (Receive.Ended a.ok))
  -- "Other ACKs and reports pass through and change nothing"; so does no frame
  passes : (s : Session) (f : Option Frame) → ((a : Ack) → f ≡ Some (Is.Ack a) → ¬ Awaits s a.word)
      → Moves s (frame f) s (received Receive.Passed)
  -- "The station may give up a wait, which closes the session"
  gives_up : (s : Session) (w : ℕ) → Awaits s w → Moves s give_up Closed gave_up
  -- "giving up with no wait on changes nothing"
  stays : (s : Session) → Idle s → Moves s give_up s gave_up
  -- a question of our own, not the request's: the answer is the awaited word, if any, and nothing changes
  awaits : (s : Session) (w : ℕ) → Awaits s w → Moves s ask s (awaiting (Some w))
  idle : (s : Session) → Idle s → Moves s ask s (awaiting None)

pub data Conversation : Session → List Event → List Response → Session → Type 0 where
  here : (s : Session) → Conversation s [] [] s
  then : (s t u : Session) (e : Event) (es : List Event) (r : Response) (rs : List Response) → Moves s e t r
      → Conversation t es rs u → Conversation s (e ∷ es) (r ∷ rs) u
