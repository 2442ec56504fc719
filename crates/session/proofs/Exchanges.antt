-- `EnableConfig` opens a session and `EndConfig` closes it: by the machine's rules, and so by the calls.
use mathlib.Core.Path.{refl, sym}
use mathlib.Core.List.{List, [], ◌∷◌}
use mathlib.Core.Bool.{true}
use Prim.Native.Nat.{ℕ, ◌≤◌}
use lib.ListN.{length}
use Rattle.refusal.specs.Refusal.{accepted}
use Rattle.writer.specs.Written.{written}
use mathlib.Core.Path.{◌≡◌}
use Rattle.std.specs.Prelude.{Some}
use Rattle.ack.specs.declared.Ack.{Ack}
use Rattle.frame.specs.declared.Frame.{Frame}
use Rattle.frame.specs.declared.Frame.TheVariants as Is
use Rattle.engine.specs.Runs.{final}
use Rattle.command.specs.Command.{command_frame}
use Rattle.command.specs.declared.Command.{Command}
use Rattle.command.specs.declared.Command.TheVariants.{EnableConfig, EndConfig}
use Rattle.session.specs.declared.Session.{Session}
use Rattle.session.specs.declared.Session.TheVariants.{Closed, Opening, Open, Closing}
use Rattle.session.specs.declared.ReceiveResult.TheVariants as Receive
use Rattle.session.specs.Machine.{Event, send, frame, Response, sent, received, opening, closing, enabling}
use Rattle.session.specs.Machine.{from_open, Leads, to_opening, to_closing, Sendable, Ends, opened, closed}
use Rattle.session.specs.Machine.{Awaits, goes, ends, Conversation, here, then}
use Rattle.session.specs.Claims.{session_call, Success, OpensAndCloses}
use Rattle.session.proofs.Moved.{any_run}

-- The responses to a command that is sent, and to the acknowledgement that ends its wait.
abbrev answers : Command → List ℕ → Ack → List Response → List Response
answers c out a rs =
    sent (accepted (length (command_frame c))) (written out (command_frame c)) ∷ received (Receive.Ended a.ok) ∷ rs

-- A command that is sent, and the acknowledgement of its success, before other events.
exchanged : (s t u v : Session) (c : Command) (out : List ℕ) (a : Ack) (es : List Event) (rs : List Response)
    → Sendable s c (length out) → Leads c t → Awaits t a.word → Success c (Is.Ack a) → Ends t true u
    → Conversation u es rs v → Conversation s (send c out ∷ frame (Some (Is.Ack a)) ∷ es) (answers c out a rs) v
exchanged s t u v c out a es rs fits leads awaits good end later =
    then s t v _ _ _ _ (goes s t c out fits leads)
    (then t u v _ _ _ _ (ends t u a awaits (rw good.1 end)) later)

module _ (out : List ℕ) (a : Ack) (v : Session) (es : List Event) (rs : List Response) where
  enabled : length (command_frame EnableConfig) ≤ length out → Success EnableConfig (Is.Ack a)
      → Conversation Open es rs v
      → Conversation Closed (send EnableConfig out ∷ frame (Some (Is.Ack a)) ∷ es) (answers EnableConfig out a rs) v
  enabled room good later =
      exchanged Closed Opening Open v EnableConfig out a es rs (record { taken = enabling; good = refl; room = room })
      to_opening (rw good.0 opening) good opened later

  ended : length (command_frame EndConfig) ≤ length out → Success EndConfig (Is.Ack a) → Conversation Closed es rs v
      → Conversation Open (send EndConfig out ∷ frame (Some (Is.Ack a)) ∷ es) (answers EndConfig out a rs) v
  ended room good later =
      exchanged Open Closing Closed v EndConfig out a es rs
      (record { taken = from_open EndConfig; good = refl; room = room })
      to_closing (rw good.0 closing) good closed later

opens : (out : List ℕ) (f : Frame) → length (command_frame EnableConfig) ≤ length out → Success EnableConfig f
    → final session_call Closed (send EnableConfig out ∷ frame (Some f) ∷ []) ≡ Open
opens out (Is.Report r) room good = absurd good
opens out (Is.Ack a) room good =
    sym ((any_run Closed _).only _ _ (enabled out a Open [] [] room good (here Open))).1

closes : (out rest : List ℕ) (f g : Frame) → length (command_frame EnableConfig) ≤ length out
    → length (command_frame EndConfig) ≤ length rest → Success EnableConfig f → Success EndConfig g
    → final session_call Closed (send EnableConfig out ∷ frame (Some f) ∷ send EndConfig rest ∷ frame (Some g) ∷ [])
    ≡ Closed
closes out rest (Is.Report r) g room room' good good' = absurd good
closes out rest (Is.Ack a) (Is.Report r) room room' good good' = absurd good'
closes out rest (Is.Ack a) (Is.Ack b) room room' good good' =
    let later = ended rest b Closed [] [] room' good' (here Closed) in
    sym ((any_run Closed _).only _ _ (enabled out a Closed _ _ room good later)).1

pub opens_and_closes : OpensAndCloses Closed
opens_and_closes = record { opened = opens; closed = closes }
