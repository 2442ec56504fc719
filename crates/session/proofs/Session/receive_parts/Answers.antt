-- `session::Session::receive_parts` meets its contract. Assumes nothing.
use mathlib.Core.Path.{refl}
use Rattle.session.specs.Session.{receive_of}
use Rattle.session.proofs.Session.receive_parts.Goals as goal

pub returns-clause-passes : goal.returns-clause-passes
unfolding receive_of
returns-clause-passes c k = rw (c.receive.ensures.told, k) (refl, refl)
