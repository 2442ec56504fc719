-- From the claim alone: without a reset, every byte taken is accounted for, if the counter of lost bytes began at 0 and
-- is not full; and the counter of frames counts the deliveries.
use mathlib.Core.Path.{◌≡◌, refl, sym, ◌∙◌, ap}
use mathlib.Core.List.{List, [], ◌∷◌, ◌++◌, append_assoc, append-nil}
use mathlib.Core.Bool.{Bool, true, false, cond}
use Prim.Native.Nat.{ℕ, ◌+◌, ◌<◌, min}
use native.Mathlib.Omega.{arith}
use lib.ListN.{length, take, length-append}
use Rattle.wire.specs.Bytes.{Every}
use Rattle.framing.specs.Piece.{Piece, stray, broken, whole, unfinished}
use Rattle.framing.specs.Division.{cut}
use Rattle.framing.specs.Tally.{lost, in_frames, waiting, passed, sum}
use Rattle.framing.proofs.Division.{division_length}
use Rattle.engine.specs.Engine.{Engine, history, final}
use Rattle.engine.specs.Calls.{Call, feed, slice, reset, taken_by, stretches, so_far, Goes}
use Rattle.engine.specs.Fulfilled.{Protocol, deliveries, answer, answers, join_over, sum_over, Fulfilled}

same_each : (f g : Piece → ℕ) → ((p : Piece) → f p ≡ g p) → (ps : List Piece) → sum f ps ≡ sum g ps
same_each f g e [] = refl
same_each f g e (p ∷ ps) = omega (arith, e p, same_each f g e ps)

cut_waits : (ps : List Piece) → sum waiting ps ≡ length (cut ps)
cut_waits [] = refl
cut_waits (stray b ∷ ps) = omega (arith, cut_waits ps)
cut_waits (broken s ∷ ps) = omega (arith, cut_waits ps)
cut_waits (whole s ∷ ps) = omega (arith, cut_waits ps)
cut_waits (unfinished s ∷ ps) = omega (arith, cut_waits ps, length-append s (cut ps))

module _ {S A K : Type 0} (E : Engine S A K) where
  -- Calls without a reset make one stretch: what was pending, then all that they took.
  pub one_stretch : (calls : List Call) (p : List ℕ) (s : S) → Every Goes calls
      → stretches p (history E s calls) ≡ so_far p (history E s calls) ∷ []
  one_stretch [] p s g = refl
  one_stretch (feed b ∷ cs) p s g = one_stretch cs (p ++ (b ∷ [])) (E.feed s b).0 g.1
  one_stretch (slice bs ∷ cs) p s g = one_stretch cs (p ++ take (E.slice s bs).told bs) (E.slice s bs).state g.1
  one_stretch (reset ∷ cs) p s g = absurd g.0

  pub all_taken : (calls : List Call) (p : List ℕ) (s : S) → Every Goes calls
      → so_far p (history E s calls) ≡ p ++ taken_by (history E s calls)
  all_taken [] p s g = sym (append-nil p)
  all_taken (feed b ∷ cs) p s g =
      let s₁ = (E.feed s b).0 in
      all_taken cs (p ++ (b ∷ [])) s₁ g.1 ∙ append_assoc p (b ∷ []) (taken_by (history E s₁ cs))
  all_taken (slice bs ∷ cs) p s g =
      let s₁ = (E.slice s bs).state in
      let t = take (E.slice s bs).told bs in
      all_taken cs (p ++ t) s₁ g.1 ∙ append_assoc p t (taken_by (history E s₁ cs))
  all_taken (reset ∷ cs) p s g = absurd g.0

  -- The counter k counts stray bytes and bytes of broken starts. These, the unfinished bytes and those of whole frames
  -- add up to the bytes pending and taken.
  pub accounts : (P : Protocol A K) (k : K) → ((q : Piece) → P.adds k q ≡ lost q)
      → (p : List ℕ) (s : S) (calls : List Call) (x : Fulfilled P E p s calls) → Every Goes calls
      → E.counter k s ≡ 0 → E.counter k (final E s calls) < E.max
      → length (p ++ taken_by (history E s calls)) ≡ E.counter k (final E s calls) + E.unfinished (final E s calls)
      + sum in_frames (x.divide (p ++ taken_by (history E s calls))).pieces
  accounts P k e p s calls x g zero room =
      let ds = history E s calls in
      rw (← all_taken calls p s g) (let ps = (x.divide (so_far p ds)).pieces in omega (
        arith,
        division_length (x.divide (so_far p ds)).division,
        same_each (P.adds k) lost e ps,
        x.counted k,
        ap (sum_over (λ t. sum (P.adds k) (x.divide t).pieces)) (one_stretch calls p s g),
        x.unfinished,
        cut_waits ps,
      ))

-- A counter of the whole frames that decode counts the deliveries.
module _ {A : Type 0} (decodes : List ℕ → Bool) (answer_of : List ℕ → A) where
  one_answer : (b : Bool) (a : A) → length (cond b (a ∷ []) []) ≡ cond b 1 0
  one_answer true a = refl
  one_answer false a = refl

  piece_answers : (p : Piece) → length (answer decodes answer_of p) ≡ passed decodes p
  piece_answers (stray b) = refl
  piece_answers (broken s) = refl
  piece_answers (whole s) = one_answer (decodes s) (answer_of s)
  piece_answers (unfinished s) = refl

  answers_counted : (ps : List Piece) → length (answers decodes answer_of ps) ≡ sum (passed decodes) ps
  answers_counted [] = refl
  answers_counted (p ∷ ps) = omega (
    arith,
    length-append (answer decodes answer_of p) (answers decodes answer_of ps),
    piece_answers p,
    answers_counted ps,
  )

  joined_counted : (f : List ℕ → List Piece) (ts : List (List ℕ))
      → length (join_over (λ t. answers decodes answer_of (f t)) ts) ≡ sum_over (λ t. sum (passed decodes) (f t)) ts
  joined_counted f [] = refl
  joined_counted f (t ∷ ts) = omega (
    arith,
    length-append (answers decodes answer_of (f t)) (join_over (λ t. answers decodes answer_of (f t)) ts),
    answers_counted (f t),
    joined_counted f ts,
  )

pub same_over : (f g : List ℕ → ℕ) → ((t : List ℕ) → f t ≡ g t) → (ts : List (List ℕ)) → sum_over f ts ≡ sum_over g ts
same_over f g e [] = refl
same_over f g e (t ∷ ts) = omega (arith, e t, same_over f g e ts)

pub frames_delivered : {S A K : Type 0} (E : Engine S A K) (P : Protocol A K) (k : K)
    → ((q : Piece) → P.adds k q ≡ passed P.decodes q) → (p : List ℕ) (s : S) (calls : List Call)
    → Fulfilled P E p s calls → E.counter k (final E s calls)
    ≡ min (E.counter k s + length (deliveries P.delivers (history E s calls))) E.max
frames_delivered E P k e p s calls x =
    let ts = stretches p (history E s calls) in
    let pieces : List ℕ → List Piece = λ t. (x.divide t).pieces in
    omega (
      arith,
      x.counted k,
      ap length x.delivered,
      joined_counted P.decodes P.answer_of pieces ts,
      same_over (λ t. sum (P.adds k) (pieces t)) (λ t. sum (passed P.decodes) (pieces t))
          (λ t. same_each (P.adds k) (passed P.decodes) e (pieces t)) ts,
    )
