-- A parser as an engine over states S, with answers A and counters named by K.
--   Sliced S A       what a slice call gives back: the state, how many bytes it says it took, and the answer
--   Engine S A K     the operations, the counters and their largest number, the unfinished length, the pending string
--   call E           one call: the state that it leaves, and what it did
--   history E s cs   what the calls cs did, one after another, from the state s
--   final E s cs     the state that they left
use Rattle.std.specs.Prelude.{List, ℕ}
use Rattle.engine.specs.Runs as Runs
use Rattle.engine.specs.Calls.{Call, feed, slice, reset, Did, fed, sliced, cleared}

pub record Sliced (S A : Type 0) : Type 0 where
  pub state : S
  pub told : ℕ
  pub answer : A

-- The counters stop at `max`. `pending` is the open string that a state holds, and `unfinished` its length, as the
-- engine gives it. An answer that points into the state, as a payload's place in a buffer does, holds the bytes at that
-- place too, so that a claim about the answer covers them.
pub record Engine (S A K : Type 0) : Type 0 where
  pub feed : S → ℕ → S × A
  pub slice : S → List ℕ → Sliced S A
  pub reset : S → S
  pub counter : K → S → ℕ
  pub max : ℕ
  pub unfinished : S → ℕ
  pub pending : S → List ℕ

module _ {S A K : Type 0} (E : Engine S A K) where
  abbrev pub call : Runs.Machine S Call (Did A)
  call s (feed b) = ((E.feed s b).0, fed b (E.feed s b).1)
  call s (slice bs) = ((E.slice s bs).state, sliced bs (E.slice s bs).told (E.slice s bs).answer)
  call s reset = (E.reset s, cleared)

  abbrev pub history : S → List Call → List (Did A)
  history s cs = Runs.history call s cs

  abbrev pub final : S → List Call → S
  final s cs = Runs.final call s cs
