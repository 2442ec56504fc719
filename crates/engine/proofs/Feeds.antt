-- Bytes fed one by one extend one stretch. The crate `counting` cites this.
use mathlib.Core.Path.{◌≡◌, sym, ◌∙◌, ap}
use mathlib.Core.List.{List, [], ◌∷◌, ◌++◌, append-nil}
use Prim.Native.Nat.{ℕ}
use lib.Seq.{append_snoc}
use Rattle.wire.specs.Bytes.{Every, Bytes}
use Rattle.engine.specs.Engine.{Engine, history}
use Rattle.engine.specs.Calls.{ByteCall, feeds, stretches, so_far}

pub feeds_bytes : (t : List ℕ) → Bytes t → Every ByteCall (feeds t)
feeds_bytes [] h = tt
feeds_bytes (b ∷ t) h = (h.0, feeds_bytes t h.1)

module _ {S A K : Type 0} (E : Engine S A K) where
  pub feeds_so_far : (t p : List ℕ) (s : S) → so_far p (history E s (feeds t)) ≡ p ++ t
  feeds_so_far [] p s = sym (append-nil p)
  feeds_so_far (b ∷ t) p s = feeds_so_far t (p ++ (b ∷ [])) (E.feed s b).0 ∙ append_snoc p b t

  pub feeds_stretch : (t p : List ℕ) (s : S) → stretches p (history E s (feeds t)) ≡ (p ++ t) ∷ []
  feeds_stretch [] p s = ap (λ (l : List ℕ). l ∷ []) (sym (append-nil p))
  feeds_stretch (b ∷ t) p s = feeds_stretch t (p ++ (b ∷ [])) (E.feed s b).0
      ∙ ap (λ (l : List ℕ). l ∷ []) (append_snoc p b t)
