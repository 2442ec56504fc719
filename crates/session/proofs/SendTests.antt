-- What `send` has to show, from its answer and its buffer.
use mathlib.Core.Path.{◌≡◌}
use mathlib.Core.List.{List}
use Prim.Native.Nat.{ℕ}
use lib.ListN.{length}
use Rattle.command.specs.declared.Command.{Command}
use Rattle.session.specs.declared.Session.{Session}
use Rattle.session.specs.declared.Sent.{Sent}
use Rattle.session.specs.Session.{send_of, buffer_of}
use Rattle.session.specs.Returned.{returned_send}
use Rattle.session.specs.Machine.{send, sent}
use Rattle.session.specs.Claims.{Called, SendCauses, FarthestSent}
use Rattle.session.proofs.Caused.{send_causes, called_send}
use Rattle.session.proofs.Farthest.{farthest_sent}

-- Its answer, its buffer, the causes, that it is a move, and the farthest gates.
pub sends : (s : Session) (c : Command) (out buf : List ℕ) (r : Sent) → r ≡ send_of s c (length out)
    → buf ≡ buffer_of s c out
    → record {
      told : r ≡ send_of s c (length out);
      left : buf ≡ buffer_of s c out;
      causes : SendCauses s c (length out) r.answer;
      called : Called s (send c out) r.session (sent (returned_send r.answer) buf);
      farthest : FarthestSent s c r.answer;
    }
sends s c out buf r p q =
    let causes : SendCauses s c (length out) r.answer = rw p (send_causes s c out) in
    record {
      told = p;
      left = q;
      causes = causes;
      called = rw (p, q) (called_send s c out);
      farthest = farthest_sent s c (length out) causes;
    }
