-- Two engines for which the claim holds do the same, if they begin with equal pending strings, counters and max.
use mathlib.Core.Path.{◌≡◌, refl, sym, ◌∙◌, ap}
use mathlib.Core.Logic.{◌↔◌}
use mathlib.Core.List.{List, [], ◌∷◌, ◌++◌}
use Prim.Native.Nat.{ℕ, suc, ◌+◌}
use native.Mathlib.Omega.{arith}
use lib.ListN.{length, take, length-append}
use lib.Seq.{append_snoc}
use Rattle.framing.proofs.Framing.{Framing, Divides, DividedIn}
use Rattle.framing.specs.Piece.{Piece}
use Rattle.framing.specs.Division.{EndsAt, cut}
use Rattle.framing.proofs.Counting.{Counting, total}
use Rattle.framing.proofs.Events.{event}
use Rattle.engine.specs.Engine.{Engine, history}
use Rattle.engine.specs.Calls.{Call, feed, slice, reset, Did, fed, sliced, cleared, stretches, so_far, up_to_reset}
use Rattle.engine.specs.Fulfilled.{Protocol, sum_over, LastEnds, Fulfilled, Same}
use Rattle.engine.proofs.Lawful.{Decoding, protocol_of}
use Rattle.engine.proofs.OneByte.{placed}
use Rattle.engine.proofs.Sure.{answer_unique, told_unique}
use Rattle.engine.proofs.Rights.{Rights}
use Rattle.engine.proofs.Accounts.{same_over}

module _ (F : Framing) where
  -- Which frame ends with the last of the bytes c ∷ t, after u, does not depend on what follows.
  same_end : (u : List ℕ) (c : ℕ) (t v w : List ℕ) {ps qs : List Piece} → Divides F (u ++ (c ∷ t ++ v)) ps
      → Divides F (u ++ (c ∷ t ++ w)) qs → (f : List ℕ)
      → EndsAt ps (length u + suc (length t)) f → EndsAt qs (length u + suc (length t)) f
  same_end u c [] v w d e f x = (event F u c w e f).1 ((event F u c v d f).0 x)
  same_end u c (b ∷ t) v w {ps} {qs} d e f x =
      placed qs (omega (arith, length-append u (c ∷ [])))
      (same_end (u ++ (c ∷ [])) b t v w (rw (← append_snoc u c (b ∷ t ++ v)) at d)
      (rw (← append_snoc u c (b ∷ t ++ w)) at e) f (placed ps (omega (arith, length-append u (c ∷ []))) x))

  -- The same of any bytes t, none included.
  pub same_last : (u t v w : List ℕ) {ps qs : List Piece} → Divides F (u ++ (t ++ v)) ps → Divides F (u ++ (t ++ w)) qs
      → (f : List ℕ) → LastEnds ps u t f ↔ LastEnds qs u t f
  same_last u [] v w d e f = ((λ x. absurd (x.0 refl)), (λ x. absurd (x.0 refl)))
  same_last u (c ∷ t) v w d e f =
      ((λ x. (x.0, same_end u c t v w d e f x.1)), (λ x. (x.0, same_end u c t w v e d f x.1)))

  same_pieces : (x y : (t : List ℕ) → DividedIn F t) (t : List ℕ) → (x t).pieces ≡ (y t).pieces
  same_pieces x y t = (y t).only (x t).pieces (x t).division

module _ (F : Framing) {S S' A K : Type 0} (D : Decoding A) (C : Counting K)
    (E : Engine S A K) (E' : Engine S' A K) where
  abbrev P : Protocol A K
  P = protocol_of F D C

  module _ (x y : (t : List ℕ) → DividedIn F t) where
    abbrev px : List ℕ → List Piece
    px t = (x t).pieces

    abbrev py : List ℕ → List Piece
    py t = (y t).pieces

    same_turns : (calls : List Call) (u : List ℕ) (s : S) (s' : S') → Rights P px u (history E s calls)
        → Rights P py u (history E' s' calls) → history E s calls ≡ history E' s' calls
    same_turns [] u s s' p q = refl
    same_turns (reset ∷ cs) u s s' p q = ap (λ ds. cleared ∷ ds) (same_turns cs [] (E.reset s) (E'.reset s')
        (λ before d after e. p (cleared ∷ before) d after (ap (λ (l : List (Did A)). cleared ∷ l) e))
        (λ before d after e. q (cleared ∷ before) d after (ap (λ (l : List (Did A)). cleared ∷ l) e)))
    same_turns (feed b ∷ cs) u s s' p q =
        let r = E.feed s b in
        let r' = E'.feed s' b in
        let hs = history E r.0 cs in
        let hs' = history E' r'.0 cs in
        let v = up_to_reset hs in
        let w = up_to_reset hs' in
        let e = answer_unique P (same_last F u (b ∷ []) v w (x (u ++ (b ∷ v))).division (y (u ++ (b ∷ w))).division)
        (p [] (fed b r.1) hs refl) (q [] (fed b r'.1) hs' refl) in
        let more = same_turns cs (u ++ (b ∷ [])) r.0 r'.0
        (λ before d after e. p (fed b r.1 ∷ before) d after (ap (λ (l : List (Did A)). fed b r.1 ∷ l) e))
        (λ before d after e. q (fed b r'.1 ∷ before) d after (ap (λ (l : List (Did A)). fed b r'.1 ∷ l) e)) in
        cc
    same_turns (slice bs ∷ cs) u s s' p q =
        let r = E.slice s bs in
        let r' = E'.slice s' bs in
        let d₁ = sliced bs r.told r.answer in
        let d₂ = sliced bs r'.told r'.answer in
        let hs = history E r.state cs in
        let hs' = history E' r'.state cs in
        let v = up_to_reset hs in
        let w = up_to_reset hs' in
        let one = p [] d₁ hs refl in
        let two = q [] d₂ hs' refl in
        let k = told_unique (rw (same_pieces F x y (u ++ bs)) at one.1) two.1 in
        let t = take r'.told bs in
        let a = answer_unique P
        (same_last F u t v w (x (u ++ (t ++ v))).division (y (u ++ (t ++ w))).division)
        (rw k at one.0) two.0 in
        let onward : Rights P px (u ++ t) hs =
        rw (← k) (λ before d after e. p (d₁ ∷ before) d after (ap (λ (l : List (Did A)). d₁ ∷ l) e)) in
        let more = same_turns cs (u ++ t) r.state r'.state onward
        (λ before d after e. q (d₂ ∷ before) d after (ap (λ (l : List (Did A)). d₂ ∷ l) e)) in
        cc

    -- Equal histories have equal totals, and equal unfinished ends.
    same_total : (k : K) (p : List ℕ) {ds es : List (Did A)} → ds ≡ es
        → sum_over (λ t. total C k (px t)) (stretches p ds) ≡ sum_over (λ t. total C k (py t)) (stretches p es)
    same_total k p {ds} {es} e = ap (λ l. sum_over (λ t. total C k (px t)) (stretches p l)) e
        ∙ same_over (λ t. total C k (px t)) (λ t. total C k (py t))
        (λ t. ap (total C k) (same_pieces F x y t)) (stretches p es)

    same_cut : (p : List ℕ) {ds es : List (Did A)} → ds ≡ es → cut (px (so_far p ds)) ≡ cut (py (so_far p es))
    same_cut p {ds} {es} e = ap (λ l. cut (px (so_far p l))) e ∙ ap cut (same_pieces F x y (so_far p es))

  -- The theorem, from the claim alone.
  pub same : (p : List ℕ) (s : S) (s' : S') (calls : List Call) → Fulfilled P E p s calls → Fulfilled P E' p s' calls
      → E.max ≡ E'.max → ((k : K) → E.counter k s ≡ E'.counter k s') → Same E E' s s' calls
  same p s s' calls x y max start =
      let h = same_turns x.divide y.divide calls p s s' x.right y.right in
      let c = same_cut x.divide y.divide p h in
      record {
        histories = h;
        counters = λ k.
            omega (arith, x.counted k, y.counted k, start k, same_total x.divide y.divide k p h);
        unfinisheds = x.unfinished ∙ ap length c ∙ sym y.unfinished;
        pendings = x.pending ∙ c ∙ sym y.pending;
      }
