-- From runs of one event: each call is the machine's only move, and each number of `send` has its cause.
use mathlib.Core.Path.{◌≡◌, refl, sym, ◌∙◌, ap}
use mathlib.Core.Logic.{◌≢◌}
use mathlib.Core.List.{List, [], ◌∷◌}
use Prim.Native.Nat.{ℕ}
use native.Mathlib.Omega.{arith}
use lib.ListN.{length}
use Rattle.std.specs.declared.option.Option.{Option}
use Rattle.refusal.specs.Refusal.{Returned, accepted}
use Rattle.writer.specs.Written.{written}
use Rattle.frame.specs.declared.Frame.{Frame}
use Rattle.command.specs.Command.{command_frame}
use Rattle.command.specs.declared.Command.{Command}
use Rattle.session.specs.declared.Session.{Session}
use Rattle.session.specs.declared.Received.{Received}
use Rattle.session.specs.Returned.{returned_send}
use Rattle.session.specs.Session.{awaited_word, send_of, buffer_of, receive_of, give_up_of}
use Rattle.session.specs.Machine.{Event, send, frame, give_up, ask, Response, sent, received, gave_up, awaiting}
use Rattle.session.specs.Machine.{Refuses, busy, not_open, unsupported, short, Sendable, Moves, refused, goes}
use Rattle.session.specs.Machine.{Conversation, here, then}
use Rattle.session.specs.Claims.{session_call, Called, SendCauses}
use Rattle.session.proofs.Moved.{lead, any_run}

-- The call is a move, and the only one.
first : (s t : Session) (e : Event) (r : Response) → Conversation s (e ∷ []) (r ∷ []) t → Moves s e t r
first s t e r (then _ _ _ _ _ _ _ m (here _)) = m

called : (s : Session) (e : Event) → Called s e (session_call s e).0 (session_call s e).1
called s e = record {
  moved = first s _ e _ (any_run s (e ∷ [])).run;
  only = λ u q m. go u q m;
}
  where
    go : (u : Session) (q : Response) → Moves s e u q → (u ≡ (session_call s e).0) × (q ≡ (session_call s e).1)
    go u q m = let h = (any_run s (e ∷ [])).only (q ∷ []) u (then s u u e [] q [] m (here u)) in (h.1, cc)

pub called_send : (s : Session) (c : Command) (out : List ℕ)
    → Called s (send c out) (send_of s c (length out)).session
    (sent (returned_send (send_of s c (length out)).answer) (buffer_of s c out))
called_send s c out = called s (send c out)

pub called_receive : (s : Session) (f : Option Frame) (r : Received) → r ≡ receive_of s f
    → Called s (frame f) r.session (received r.answer)
called_receive s f r p = rw p (called s (frame f))

pub called_give_up : (s t : Session) → t ≡ give_up_of s → Called s give_up t gave_up
called_give_up s t p = rw p (called s give_up)

pub called_ask : (s : Session) (w : Option ℕ) → w ≡ awaited_word s → Called s ask s (awaiting w)
called_ask s w p = rw p (called s ask)

refused_number : (s : Session) (c : Command) (n : ℕ) (q : Returned ℕ) → Refuses s c n q → q.number ≢ 0
refused_number s c n q (busy _ _ _ w a) z = omega arith
refused_number s c n q (not_open _ _ h) z = omega arith
refused_number s c n q (unsupported _ _ _ k b) z = omega arith
refused_number s c n q (short _ _ _ k b h) z = omega arith

-- A command is refused, with a number other than 0, or sent, with 0.
data Answered (s : Session) (c : Command) (n : ℕ) (q : Returned ℕ) : Type 0 where
  no : Refuses s c n q → Answered s c n q
  yes : q.number ≡ 0 → Sendable s c n → Answered s c n q

moved : (s t : Session) (c : Command) (out : List ℕ) (q : Returned ℕ) (left : List ℕ)
    → Moves s (send c out) t (sent q left) → Answered s c (length out) q
moved s t c out q left (refused _ _ _ _ h) = no h
moved s t c out q left (goes _ _ _ _ h l) = yes refl h

module _ (s : Session) (c : Command) (out : List ℕ) where
  abbrev returns : Returned ℕ
  returns = returned_send (send_of s c (length out)).answer

  is_sent : Answered s c (length out) returns
  is_sent = moved s _ c out returns (buffer_of s c out) (called s (send c out)).moved

  -- A move of the machine returns what the call does.
  only_one : (t : Session) (q : Returned ℕ) (left : List ℕ) → Moves s (send c out) t (sent q left) → returns ≡ q
  only_one t q left m = let h = ((called s (send c out)).only t (sent q left) m).1 in cc

  refuses : (q : Returned ℕ) → Refuses s c (length out) q → (returns ≡ q) × (q.number ≢ 0)
  refuses q h = (only_one s q out (refused s c out q h), refused_number s c (length out) q h)

  refused_by_lem : (q : Returned ℕ) → Answered s c (length out) returns → (returns ≡ q) × (q.number ≢ 0)
      → Refuses s c (length out) q
  refused_by_lem q (no h) p = rw (← p.0) h
  refused_by_lem q (yes z h) p = absurd (p.1 (ap (λ (r : Returned ℕ). r.number) (sym p.0) ∙ z))

  accepted_by : Answered s c (length out) returns → returns.number ≡ 0 → Sendable s c (length out)
  accepted_by (no h) z = absurd (refused_number s c (length out) returns h z)
  accepted_by (yes z h) q = h

  fits : Sendable s c (length out) → returns.number ≡ 0
  fits h = ap (λ (r : Returned ℕ). r.number)
      (only_one (lead c).to (accepted (length (command_frame c))) (written out (command_frame c))
      (goes s (lead c).to c out h (lead c).leads))

  pub send_causes : SendCauses s c (length out) (send_of s c (length out)).answer
  send_causes = record {
    refused = λ q. (refused_by_lem q is_sent, refuses q);
    accepted = (accepted_by is_sent, fits);
  }
