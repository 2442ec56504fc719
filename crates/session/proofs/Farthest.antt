-- A `SetMaxGates` in a session: 2 exactly if the session is open and one of its gates is outside the module's range.
use mathlib.Core.Path.{◌≡◌, refl, sym, ap, ◌∙◌}
use mathlib.Core.Bool.{false}
use Prim.Native.Nat.{ℕ}
use Rattle.std.specs.declared.result.Result.{Result}
use native.Mathlib.Omega.{arith}
use Rattle.refusal.specs.Refusal.{Returned}
use Rattle.command.specs.Command.{word_of, encodable}
use Rattle.command.specs.declared.Command.{Command}
use Rattle.command.proofs.Farthest.{unsupported_gates}
use Rattle.session.specs.declared.Session.{Session}
use Rattle.session.specs.declared.Session.TheVariants.{Open}
use Rattle.session.specs.declared.SessionError.{SessionError}
use Rattle.session.specs.Returned.{returned_send}
use Rattle.session.specs.Machine.{Takes, enabling, from_open, Refuses, busy, not_open, unsupported, short}
use Rattle.session.specs.Machine.{number_alone}
use Rattle.session.specs.Claims.{SendCauses, FarthestSent}

-- A command with the word of `SetMaxGates` may be sent only from open.
takes_open : (s : Session) (c : Command) → word_of c ≡ 0x0060 → Takes s c → s ≡ Open
takes_open s c e enabling = absurd (omega arith)
takes_open s c e (from_open _) = refl

-- Only a command that may be sent, with values that the module does not take, gets 2.
two_refused : (s : Session) (c : Command) (k : ℕ) (q : Returned ℕ) → Refuses s c k q → q.number ≡ 2
    → Takes s c × (encodable c ≡ false)
two_refused s c k q (busy _ _ _ w a) z = absurd (omega arith)
two_refused s c k q (not_open _ _ h) z = absurd (omega arith)
two_refused s c k q (unsupported _ _ _ a b) z = (a, b)
two_refused s c k q (short _ _ _ a b h) z = absurd (omega arith)

module _ (s : Session) (c : Command) (k : ℕ) {r : Result ℕ SessionError} (w : SendCauses s c k r) where
  told : (returned_send r).number ≡ 2 → Takes s c × (encodable c ≡ false)
  told z = two_refused s c k (returned_send r) ((w.refused (returned_send r)).0 (refl, λ y. omega arith)) z

  tells : s ≡ Open → encodable c ≡ false → (returned_send r).number ≡ 2
  tells o b =
      let h : Refuses s c k (number_alone 2) = unsupported s c k (rw o (from_open c)) b in
      ap (λ (q : Returned ℕ). q.number) ((w.refused (number_alone 2)).1 h).0

  pub farthest_sent : FarthestSent s c r
  farthest_sent m t n h e =
      let gates = unsupported_gates m t n h in
      let same = ap encodable e in (
        λ z. let p = told z in (takes_open s c (ap word_of e) p.0, gates.0 (sym same ∙ p.1)),
        λ p. tells p.0 (same ∙ gates.1 p.1),
      )
