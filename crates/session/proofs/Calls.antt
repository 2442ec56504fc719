-- What the calls of a session do under the premises of the machine's rules.
use mathlib.Core.Path.{◌≡◌, refl, sym, ◌∙◌}
use mathlib.Core.Logic.{◌≢◌}
use mathlib.Core.Bool.{Bool, true, false, false≢true}
use Prim.Native.Nat.{ℕ}
use native.Mathlib.Omega.{arith}
use borrow.Author.Tests.{eqb-true, eq-eqb}
use Rattle.std.specs.Prelude.{Some, None}
use Rattle.std.specs.declared.option.Option.{Option}
use Rattle.ack.specs.declared.Ack.{Ack}
use Rattle.frame.specs.declared.Frame.{Frame}
use Rattle.frame.specs.declared.Frame.TheVariants as Is
use Rattle.command.specs.Command.{word_of}
use Rattle.command.specs.declared.Command.{Command}
use Rattle.command.specs.declared.Command.TheVariants.{EnableConfig, EndConfig, Restart}
use Rattle.session.specs.declared.Session.{Session}
use Rattle.session.specs.declared.Session.TheVariants.{Closed, Opening, Open, Waiting, Closing}
use Rattle.session.specs.declared.ReceiveResult.TheVariants as Receive
use Rattle.session.specs.Session.{awaited_word, is_busy, needs_open, after_sending, after_ack, is_word, received_as}
use Rattle.session.specs.Session.{receive_of}
use Rattle.session.specs.Machine.{Awaits, opening, waiting, closing, Idle, Takes, enabling, from_open, Leads}
use Rattle.session.specs.Machine.{to_opening, to_closing, to_waiting, Ends, opened, not_opened, closed}
use Rattle.session.specs.Machine.{not_closed, restarted, not_restarted, other}
use Rattle.session.proofs.Which.{is_enable, is_end, is_restart, named_apart}

pub awaited_some : (s : Session) (w : ℕ) → Awaits s w → awaited_word s ≡ Some w
awaited_some s w opening = refl
awaited_some s w (waiting c) = refl
awaited_some s w closing = refl

pub awaited_none : (s : Session) → Idle s → awaited_word s ≡ None
awaited_none Closed n = refl
awaited_none Opening n = absurd (n _ opening)
awaited_none Open n = refl
awaited_none (Waiting c) n = absurd (n _ (waiting c))
awaited_none Closing n = absurd (n _ closing)

pub none_idle : (s : Session) → awaited_word s ≡ None → Idle s
none_idle s e w a = let q = sym (awaited_some s w a) ∙ e in let z : ◌≡◌ {A = ℕ} 0 1 = cc in omega arith

pub awaited_busy : (s : Session) (w : ℕ) → Awaits s w → is_busy s ≡ true
awaited_busy s w a = rw (awaited_some s w a)

pub idle_free : (s : Session) → Idle s → is_busy s ≡ false
idle_free s n = rw (awaited_none s n)

pub closed_needs_open : (c : Command) → c ≢ EnableConfig → needs_open Closed c ≡ true
closed_needs_open c n = rw (named_apart c EnableConfig is_enable n)

-- A command that may be sent passes the tests for 8 and 7.
pub taken_passes : (s : Session) (c : Command) → Takes s c → (is_busy s ≡ false) × (needs_open s c ≡ false)
taken_passes s c enabling = (refl, refl)
taken_passes s c (from_open d) = (refl, refl)

pub leads_after : (c : Command) (t : Session) → Leads c t → t ≡ after_sending c
leads_after c t to_opening = refl
leads_after c t to_closing = refl
leads_after c t (to_waiting d p q) = rw (named_apart c EnableConfig is_enable p, named_apart c EndConfig is_end q)

other_ends : (c : Command) (ok : Bool) → c ≢ Restart → Open ≡ after_ack (Waiting c) ok
other_ends c true n = rw (named_apart c Restart is_restart n)
other_ends c false n = refl

pub ends_after : (s t : Session) (ok : Bool) → Ends s ok t → t ≡ after_ack s ok
ends_after s t ok opened = refl
ends_after s t ok not_opened = refl
ends_after s t ok closed = refl
ends_after s t ok not_closed = refl
ends_after s t ok restarted = refl
ends_after s t ok not_restarted = refl
ends_after s t ok (other c b n) = other_ends c b n

-- A word passes the test exactly if it is awaited.
pub word_awaited : (s : Session) (v : ℕ) → is_word (awaited_word s) v ≡ true → Awaits s v
word_awaited Closed v e = absurd (false≢true e)
word_awaited Opening v e = rw (eqb-true v 0x00FF e) opening
word_awaited Open v e = absurd (false≢true e)
word_awaited (Waiting c) v e = rw (eqb-true v (word_of c) e) (waiting c)
word_awaited Closing v e = rw (eqb-true v 0x00FE e) closing

pub awaited_passes : (s : Session) (v : ℕ) → Awaits s v → is_word (awaited_word s) v ≡ true
awaited_passes s v a = rw (awaited_some s v a) (eq-eqb v v refl)

-- A frame that is no acknowledgement of the awaited word passes through.
pub frame_passes : (s : Session) (f : Option Frame) → ((a : Ack) → f ≡ Some (Is.Ack a) → ¬ Awaits s a.word)
    → receive_of s f ≡ record { session = s; answer = Receive.Passed }
unfolding receive_of
frame_passes s (Some (Is.Report r)) n = refl
frame_passes s None n = refl
frame_passes s (Some (Is.Ack a)) n = go (is_word (awaited_word s) a.word) refl
  where
    go : (b : Bool) → is_word (awaited_word s) a.word ≡ b
        → received_as b s a.ok ≡ record { session = s; answer = Receive.Passed }
    go true q = absurd (n a refl (word_awaited s a.word q))
    go false q = refl
