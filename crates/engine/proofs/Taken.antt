-- What calls without a reset took and delivered, and which call took the n-th byte.
use mathlib.Core.Path.{◌≡◌, refl, sym, ◌∙◌, ap}
use mathlib.Core.List.{List, [], ◌∷◌, ◌++◌, append_assoc, append-nil}
use mathlib.Core.Bool.{Bool}
use Prim.Native.Nat.{ℕ, ◌+◌, ◌-◌, ◌≤◌, ◌<◌}
use native.Mathlib.Decide.{dec_lt}
use native.Mathlib.Omega.{arith}
use lib.ListN.{length, take, length-append}
use Rattle.wire.specs.Bytes.{Every}
use Rattle.framing.proofs.Framing.{Framing, Divides}
use Rattle.framing.specs.Piece.{Piece}
use Rattle.framing.proofs.Counting.{Counting}
use Rattle.engine.specs.Engine.{Engine, call, history, final}
use Rattle.engine.specs.Calls.{Call, feed, slice, reset, Goes, Did, taken, taken_by, up_to_reset}
use Rattle.engine.specs.Fulfilled.{delivery, deliveries, join_over, Fulfilled}
use Rattle.engine.proofs.Lawful.{Decoding, protocol_of}
use Rattle.engine.proofs.Deliveries.{answers_of}
use Rattle.engine.proofs.Accounts.{one_stretch, all_taken}

module _ {A : Type 0} where
  pub taken_append : (ds es : List (Did A)) → taken_by (ds ++ es) ≡ taken_by ds ++ taken_by es
  taken_append [] es = refl
  taken_append (d ∷ ds) es = rw (taken_append ds es) (sym (append_assoc (taken d) (taken_by ds) (taken_by es)))

  pub deliveries_append : (delivers : A → Bool) (ds es : List (Did A))
      → deliveries delivers (ds ++ es) ≡ deliveries delivers ds ++ deliveries delivers es
  deliveries_append delivers [] es = refl
  deliveries_append delivers (d ∷ ds) es = rw (deliveries_append delivers ds es)
      (sym (append_assoc (delivery delivers d) (deliveries delivers ds) (deliveries delivers es)))

module _ {S A K : Type 0} (E : Engine S A K) where
  -- Without a reset, the bytes taken up to the first reset are all the bytes taken.
  pub up_to_end : (calls : List Call) (s : S) → Every Goes calls
      → up_to_reset (history E s calls) ≡ taken_by (history E s calls)
  up_to_end [] s g = refl
  up_to_end (feed b ∷ cs) s g = ap (λ (l : List ℕ). b ∷ l) (up_to_end cs (E.feed s b).0 g.1)
  up_to_end (slice bs ∷ cs) s g =
      ap (λ (l : List ℕ). take (E.slice s bs).told bs ++ l) (up_to_end cs (E.slice s bs).state g.1)
  up_to_end (reset ∷ cs) s g = absurd g.0

  -- The call that took the n-th byte.
  pub record Reach (s : S) (calls : List Call) (n : ℕ) : Type 0 where
    pub earlier : List Call
    pub at : Call
    pub later : List Call
    pub split : calls ≡ earlier ++ (at ∷ later)
    pub short : length (taken_by (history E s earlier)) < n
    pub long : n ≤ length (taken_by (history E s earlier)) + length (taken (call E (final E s earlier) at).1)

  reach_more : (c : Call) (cs : List Call) (s : S) (n : ℕ) → let t = taken (call E s c).1 in length t < n
      → Reach (call E s c).0 cs (n - length t) → Reach s (c ∷ cs) n
  reach_more c cs s n h r =
      let t = taken (call E s c).1 in
      let both = length-append t (taken_by (history E (call E s c).0 r.earlier)) in
      record {
        earlier = c ∷ r.earlier;
        at = r.at;
        later = r.later;
        split = ap (λ (l : List Call). c ∷ l) r.split;
        short = omega (arith, both, r.short);
        long = omega (arith, both, r.long);
      }

  pub reach : (calls : List Call) (s : S) (n : ℕ) → 0 < n → n ≤ length (taken_by (history E s calls)) → Reach s calls n
  reach [] s n h l = absurd (omega arith)
  reach (c ∷ cs) s n h l = go (reach cs s₁) (dec_lt (length t) n)
    where
      t : List ℕ
      t = taken (call E s c).1

      s₁ : S
      s₁ = (call E s c).0

      go : ((m : ℕ) → 0 < m → m ≤ length (taken_by (history E s₁ cs)) → Reach s₁ cs m) → Dec (length t < n)
          → Reach s (c ∷ cs) n
      go more (no u) = record { earlier = []; at = c; later = cs; split = refl; short = h; long = omega arith }
      go more (yes u) = reach_more c cs s n u
          (more (n - length t) (omega arith) (omega (arith, length-append t (taken_by (history E s₁ cs)))))

  -- Without a reset, the calls deliver the frames of their one stretch that decode, in order.
  pub stretch_delivered : (F : Framing) (D : Decoding A) (C : Counting K) (p : List ℕ) (s : S) (calls : List Call)
      → Fulfilled (protocol_of F D C) E p s calls → Every Goes calls → (ps : List Piece)
      → Divides F (p ++ taken_by (history E s calls)) ps
      → deliveries D.delivers (history E s calls) ≡ answers_of D ps
  stretch_delivered F D C p s calls x g ps d =
      let t = p ++ taken_by (history E s calls) in
      x.delivered
      ∙ ap (join_over (λ u. answers_of D (x.divide u).pieces))
      (one_stretch E calls p s g ∙ ap (λ (u : List ℕ). u ∷ []) (all_taken E calls p s g))
      ∙ append-nil (answers_of D (x.divide t).pieces) ∙ ap (answers_of D) (sym ((x.divide t).only ps d))
