-- From the claim alone: a run that is stored and resumed in a state with the same pending string and counters does what
-- one run does.
use mathlib.Core.Path.{◌≡◌, ◌∙◌, ap, subst}
use mathlib.Core.List.{List, ◌++◌}
use Prim.Native.Nat.{ℕ}
use Rattle.framing.proofs.Framing.{Framing}
use Rattle.framing.proofs.Counting.{Counting}
use Rattle.engine.specs.Calls.{Call, Did}
use Rattle.engine.specs.Engine.{Engine, call, history, final}
use Rattle.engine.specs.Fulfilled.{Fulfilled}
use Rattle.engine.proofs.Lawful.{Decoding, protocol_of}
use Rattle.engine.proofs.Runs.{history_append}
use Rattle.engine.proofs.Same.{same}

module _ (F : Framing) {S S' A K : Type 0} (D : Decoding A) (C : Counting K) (E : Engine S A K)
    (E' : Engine S' A K) where
  -- The calls cs are made on E, then ds on E' from s'.
  pub resumed : (s : S) (s' : S') (cs ds : List Call)
      → Fulfilled (protocol_of F D C) E (E.pending (final E s cs)) (final E s cs) ds
      → Fulfilled (protocol_of F D C) E' (E'.pending s') s' ds
      → E.max ≡ E'.max → E'.pending s' ≡ E.pending (final E s cs)
      → ((k : K) → E.counter k (final E s cs) ≡ E'.counter k s')
      → history E s (cs ++ ds) ≡ history E s cs ++ history E' s' ds
  resumed s s' cs ds x y max e counters = history_append (call E) s cs ds
      ∙ ap (λ (l : List (Did A)). history E s cs ++ l)
      (same F D C E E' (E.pending (final E s cs)) (final E s cs) s' ds x
      (subst (λ (p : List ℕ). Fulfilled (protocol_of F D C) E' p s' ds) e y) max counters).histories
