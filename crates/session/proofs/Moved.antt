-- The calls move as the machine does, and the machine leaves no choice: an event has one move, which the call makes.
use mathlib.Core.Path.{◌≡◌, refl, sym, ◌∙◌}
use mathlib.Core.Logic.{◌≢◌, ◌⊎◌, inl, inr}
use mathlib.Core.List.{List, [], ◌∷◌}
use mathlib.Core.Bool.{Bool, true, false, false≢true}
use Prim.Native.Nat.{ℕ}
use lib.Dec.{leb}
use lib.ListN.{length}
use borrow.Author.Tests.{le-leb, lt-leb, leb-true, leb-false}
use Rattle.refusal.specs.Refusal.{Returned}
use Rattle.writer.specs.Written.{write_result, buffer_after}
use Rattle.std.specs.Prelude.{Some, None}
use Rattle.std.specs.declared.option.Option.{Option}
use native.Mathlib.Omega.{arith}
use Rattle.ack.specs.declared.Ack.{Ack}
use Rattle.frame.specs.declared.Frame.{Frame}
use Rattle.frame.specs.declared.Frame.TheVariants as Is
use Rattle.command.specs.Command.{command_frame, encodable}
use Rattle.command.specs.declared.Command.{Command}
use Rattle.command.specs.declared.Command.TheVariants.{EnableConfig, EndConfig, Restart}
use Rattle.engine.specs.Runs.{history, final}
use Rattle.session.specs.declared.Session.{Session}
use Rattle.session.specs.declared.Session.TheVariants.{Closed, Opening, Open, Waiting, Closing}
use Rattle.session.specs.declared.ReceiveResult.TheVariants as Receive
use Rattle.session.specs.Session.{awaited_word, is_word, answer_of, send_of, buffer_of, receive_of, give_up_of}
use Rattle.session.specs.Machine.{Event, send, frame, give_up, ask, Response, Awaits, opening, waiting, closing}
use Rattle.session.specs.Machine.{Idle, Takes, enabling, from_open, Leads, to_opening, to_closing, to_waiting}
use Rattle.session.specs.Machine.{Refuses, busy, not_open, unsupported, short, Ends, opened, not_opened}
use Rattle.session.specs.Machine.{closed, not_closed, restarted, not_restarted, other, Moves, refused, goes}
use Rattle.session.specs.Machine.{ends, passes, gives_up, stays, awaits, idle, Conversation, here, then}
use Rattle.session.specs.Claims.{session_call, AnySession}
use Rattle.session.proofs.Which.{is_enable, is_end, is_restart, named_decided}
use Rattle.session.proofs.Calls.{awaited_some, awaited_none, none_idle, awaited_busy, idle_free}
use Rattle.session.proofs.Calls.{closed_needs_open, taken_passes, leads_after, ends_after}
use Rattle.session.proofs.Calls.{word_awaited, awaited_passes, frame_passes}

-- A move is what the call does.
abbrev Same : Session → Event → Session → Response → Type 0
Same s e t a = (a ≡ (session_call s e).1) × (t ≡ (session_call s e).0)

refused_same : (s : Session) (c : Command) (out : List ℕ) (r : Returned ℕ) → Refuses s c (length out) r
    → Same s (send c out) s (Response.sent r out)
unfolding send_of answer_of buffer_of write_result buffer_after
refused_same s c out r (busy _ _ _ w a) = rw (awaited_busy s w a) (refl, refl)
refused_same s c out r (not_open _ _ n) = rw (closed_needs_open c n) (refl, refl)
refused_same s c out r (unsupported _ _ _ k b) = let p = taken_passes s c k in rw (p.0, p.1, b) (refl, refl)
refused_same s c out r (short _ _ _ k b h) =
    let p = taken_passes s c k in
    rw (p.0, p.1, b, lt-leb (length (command_frame c)) (length out) h) (refl, refl)

passes_same : (s : Session) (f : Option Frame) → ((a : Ack) → f ≡ Some (Is.Ack a) → ¬ Awaits s a.word)
    → Same s (frame f) s (Response.received Receive.Passed)
passes_same s f n = rw (frame_passes s f n) (refl, refl)

same : (s : Session) (e : Event) (t : Session) (a : Response) → Moves s e t a → Same s e t a
unfolding send_of answer_of buffer_of write_result buffer_after receive_of give_up_of
same s e t a (refused _ c out r h) = refused_same s c out r h
same s e t a (goes _ _ c out h l) =
    let p = taken_passes s c h.taken in
    rw (p.0, p.1, h.good, le-leb (length (command_frame c)) (length out) h.room) (refl, leads_after c t l)
same s e t a (ends _ _ k w x) = rw (awaited_passes s k.word w) (refl, ends_after s t k.ok x)
same s e t a (passes _ f n) = passes_same s f n
same s e t a (gives_up _ w k) = rw (awaited_busy s w k) (refl, refl)
same s e t a (stays _ n) = rw (idle_free s n) (refl, refl)
same s e t a (awaits _ w k) = rw (awaited_some s w k) (refl, refl)
same s e t a (idle _ n) = rw (awaited_none s n) (refl, refl)

-- The machine moves at every event.
record Move (s : Session) (e : Event) : Type 0 where
  pub to : Session
  pub answer : Response
  pub moves : Moves s e to answer

-- Every command leads to some session.
pub record Lead (c : Command) : Type 0 where
  pub to : Session
  pub leads : Leads c to

pub lead : (c : Command) → Lead c
lead c = go (named_decided c EnableConfig is_enable) (named_decided c EndConfig is_end)
  where
    go : (c ≡ EnableConfig) ⊎ (c ≢ EnableConfig) → (c ≡ EndConfig) ⊎ (c ≢ EndConfig) → Lead c
    go (inl e) h = rw e (record { to = Opening; leads = to_opening })
    go (inr n) (inl e) = rw e (record { to = Closing; leads = to_closing })
    go (inr n) (inr m) = record { to = Waiting c; leads = to_waiting c n m }

-- A command that may be sent is sent, or refused with 2 or 4.
module _ (s : Session) (c : Command) (out : List ℕ) (k : Takes s c) where
  taken_moves : (good : Bool) → encodable c ≡ good → (room : Bool) → leb (length (command_frame c)) (length out) ≡ room
      → Move s (send c out)
  taken_moves false b room q =
      record { to = s; answer = _; moves = refused s c out _ (unsupported s c (length out) k b) }
  taken_moves true b false q =
      record { to = s; answer = _; moves = refused s c out _ (short s c (length out) k b (leb-false _ _ q)) }
  taken_moves true b true q = record {
    to = (lead c).to;
    answer = _;
    moves = goes s (lead c).to c out (record { taken = k; good = b; room = leb-true _ _ q }) (lead c).leads;
  }

  taken : Move s (send c out)
  taken = taken_moves (encodable c) refl (leb (length (command_frame c)) (length out)) refl

awaited_moves : (s : Session) (w : ℕ) (c : Command) (out : List ℕ) → Awaits s w → Move s (send c out)
awaited_moves s w c out a = record { to = s; answer = _; moves = refused s c out _ (busy s c (length out) w a) }

closed_moves : (c : Command) (out : List ℕ) → (c ≡ EnableConfig) ⊎ (c ≢ EnableConfig) → Move Closed (send c out)
closed_moves c out (inl e) = rw e (taken Closed EnableConfig out enabling)
closed_moves c out (inr n) =
    record { to = Closed; answer = _; moves = refused Closed c out _ (not_open c (length out) n) }

send_moves : (s : Session) (c : Command) (out : List ℕ) → Move s (send c out)
send_moves Closed c out = closed_moves c out (named_decided c EnableConfig is_enable)
send_moves Opening c out = awaited_moves Opening _ c out opening
send_moves Open c out = taken Open c out (from_open c)
send_moves (Waiting d) c out = awaited_moves (Waiting d) _ c out (waiting d)
send_moves Closing c out = awaited_moves Closing _ c out closing

-- The awaited acknowledgement leads to some session.
record End (s : Session) (ok : Bool) : Type 0 where
  pub to : Session
  pub ended : Ends s ok to

end : (s : Session) (w : ℕ) (ok : Bool) → Awaits s w → End s ok
end s w true opening = record { to = Open; ended = opened }
end s w false opening = record { to = Closed; ended = not_opened }
end s w true closing = record { to = Closed; ended = closed }
end s w false closing = record { to = Open; ended = not_closed }
end s w ok (waiting c) = go ok (named_decided c Restart is_restart)
  where
    go : (b : Bool) → (c ≡ Restart) ⊎ (c ≢ Restart) → End (Waiting c) b
    go true (inl e) = rw e (record { to = Closed; ended = restarted })
    go false (inl e) = rw e (record { to = Open; ended = not_restarted })
    go b (inr n) = record { to = Open; ended = other c b n }

passing : (s : Session) (f : Option Frame) → ((a : Ack) → f ≡ Some (Is.Ack a) → ¬ Awaits s a.word) → Move s (frame f)
passing s f n = record { to = s; answer = _; moves = passes s f n }

frame_moves : (s : Session) (f : Option Frame) → Move s (frame f)
frame_moves s (Some (Is.Report r)) = passing s _ (λ a e h. let z : ◌≡◌ {A = ℕ} 0 1 = cc in omega arith)
frame_moves s None = passing s _ (λ a e h. let z : ◌≡◌ {A = ℕ} 0 1 = cc in omega arith)
frame_moves s (Some (Is.Ack a)) = go (is_word (awaited_word s) a.word) refl
  where
    go : (b : Bool) → is_word (awaited_word s) a.word ≡ b → Move s (frame (Some (Is.Ack a)))
    go true q =
        let h = word_awaited s a.word q in
        let x = end s a.word a.ok h in
        record { to = x.to; answer = _; moves = ends s x.to a h x.ended }
    go false q =
        passing s _ (λ d e h. let same_ack : a ≡ d = cc in
        false≢true (sym q ∙ rw same_ack (awaited_passes s d.word h)))

-- A wait is on, or none is.
data Wait (s : Session) : Type 0 where
  on : (w : ℕ) → Awaits s w → Wait s
  off : Idle s → Wait s

wait : (s : Session) → Wait s
wait Closed = off (none_idle Closed refl)
wait Opening = on _ opening
wait Open = off (none_idle Open refl)
wait (Waiting c) = on _ (waiting c)
wait Closing = on _ closing

give_up_moves : (s : Session) → Wait s → Move s give_up
give_up_moves s (on w a) = record { to = Closed; answer = _; moves = gives_up s w a }
give_up_moves s (off n) = record { to = s; answer = _; moves = stays s n }

ask_moves : (s : Session) → Wait s → Move s ask
ask_moves s (on w a) = record { to = s; answer = _; moves = awaits s w a }
ask_moves s (off n) = record { to = s; answer = _; moves = idle s n }

move : (s : Session) (e : Event) → Move s e
move s (send c out) = send_moves s c out
move s (frame f) = frame_moves s f
move s give_up = give_up_moves s (wait s)
move s ask = ask_moves s (wait s)

-- So each call is a move, and any calls are the only conversation for their events.
call_moves : (s : Session) (e : Event) → Moves s e (session_call s e).0 (session_call s e).1
call_moves s e =
    let m = move s e in
    let q = same s e m.to m.answer m.moves in
    rw (← q.0, ← q.1) m.moves

runs : (s : Session) (es : List Event) → Conversation s es (history session_call s es) (final session_call s es)
runs s [] = here s
runs s (e ∷ es) =
    let t = (session_call s e).0 in
    then s t _ e es (session_call s e).1 _ (call_moves s e) (runs t es)

only : (s : Session) (es : List Event) (ans : List Response) (t : Session) → Conversation s es ans t
    → (ans ≡ history session_call s es) × (t ≡ final session_call s es)
only s es ans t (here _) = (refl, refl)
only s es ans t (then _ v u e fs a bs m r) =
    let x = same s e v a m in
    let y = only v fs bs u r in
    let z = x.1 in
    (rw (x.0, y.0, z) refl, rw (y.1, z) refl)

pub any_run : AnySession
any_run s es = record { run = runs s es; only = only s es }
