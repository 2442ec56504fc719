-- What a byte does after n bytes of a frame, its target bytes in d: it goes on with the frame, ends it, or breaks it.
--   Turn   which of the three, with the step, the buffer and the string after the byte
use mathlib.Core.Path.{◌≡◌, refl, sym, ap, ◌∙◌}
use mathlib.Core.Logic.{◌⊎◌, inl, inr, ⊎_elim}
use mathlib.Core.List.{List, [], ◌∷◌, ◌++◌, append_assoc}
use mathlib.Core.Bool.{Bool, true, false}
use Prim.Native.Nat.{ℕ, suc, ◌+◌, ◌-◌, ◌≤◌, ◌<◌}
use native.Mathlib.Decide.{dec_le}
use native.Mathlib.Omega.{arith}
use lib.Dec.{eqb}
use lib.ListN.{length, get_or, take, set, length-set, get_or-append}
use lib.Seq.{take-suc, take_all, take-suc-set, set-append_left, get_or-append-add, get_or_at, length-take-le}
use borrow.Author.Tests.{lt-ltb, le-ltb, eq-eqb, eqb-true, eqb-false}
use Rattle.ld2450.specs.Frame.{header, tail, framed}
use Rattle.ld2450.proofs.Frames.{framed_length}
use Rattle.ld2450_parser.specs.Stream.{Open}
use Rattle.ld2450_parser.specs.Feed.{among, due_at, continued, ended, abandoned, started}
use Rattle.ld2450_parser.specs.Feed.{where_due, step_of, stored}
use Rattle.ld2450_parser.specs.declared.Stats.{Stats}

-- A place is among the targets, or in the header or the tail.
abbrev Inside : ℕ → Type 0
Inside n = (4 ≤ n) × (n < 28)

abbrev pub Outside : ℕ → Type 0
Outside n = (n < 4) ⊎ (28 ≤ n)

inside? : (n : ℕ) → Inside n ⊎ Outside n
inside? n = go (dec_le 4 n) (dec_le 28 n)
  where
    go : Dec (4 ≤ n) → Dec (28 ≤ n) → Inside n ⊎ Outside n
    go (yes h) (yes g) = inr (inr g)
    go (yes h) (no g) = inl (h, omega arith)
    go (no h) g = inr (inl (omega arith))

module _ {A : Type 0} (n : ℕ) (x y : A) where
  among_inside : Inside n → among n x y ≡ x
  among_inside i = rw (le-ltb n 4 i.0, lt-ltb n 28 i.1)

  among_outside : Outside n → among n x y ≡ y
  among_outside (inl h) = rw (lt-ltb n 4 h)
  among_outside (inr h) = rw (le-ltb n 4 (omega arith), le-ltb n 28 h)

-- In the header and the tail every frame has the byte that is due.
pub framed_due : (n : ℕ) (d : List ℕ) → length d ≡ 24 → n ≤ 29 → Outside n → get_or (framed d) n 0 ≡ due_at n
unfolding due_at
framed_due n d l u (inl h) = rw (lt-ltb n 4 h) (get_or-append header (d ++ tail) 0 n h)
framed_due n d l u (inr h) =
    let place : n ≡ 4 + (length d + (n - 28)) = omega arith in
    rw (le-ltb n 4 (omega arith))
    (ap (λ i. get_or (framed d) i 0) place ∙ get_or-append-add header (d ++ tail) (length d + (n - 28)) 0
    ∙ get_or-append-add d tail (n - 28) 0)

-- A byte that fits makes a longer beginning of a frame; among the targets it is stored.
pub stored_length : (n : ℕ) (d : List ℕ) (b : ℕ) → length (stored n d b) ≡ length d
unfolding stored
stored_length n d b = ⊎_elim
    (λ i. ap length (among_inside n (set d (n - 4) b) d i) ∙ length-set d (n - 4) b)
    (λ o. ap length (among_outside n (set d (n - 4) b) d o)) (inside? n)

framed_set : (n : ℕ) (d : List ℕ) (b : ℕ) → length d ≡ 24 → Inside n → framed (set d (n - 4) b) ≡ set (framed d) n b
framed_set n d b l i =
    let place : n ≡ suc (suc (suc (suc (n - 4)))) = omega arith in
    ap (λ (s : List ℕ). header ++ s) (sym (set-append_left d tail (n - 4) b (omega arith)))
    ∙ ap (λ m. set (framed d) m b) (sym place)

module _ (n : ℕ) (u : n ≤ 29) (d : List ℕ) (l : length d ≡ 24) (b : ℕ) where
  longer_inside : Inside n → take (suc n) (framed (stored n d b)) ≡ take n (framed d) ++ (b ∷ [])
  unfolding stored
  longer_inside i =
      ap (λ (s : List ℕ). take (suc n) (framed s)) (among_inside n (set d (n - 4) b) d i)
      ∙ ap (take (suc n)) (framed_set n d b l i) ∙ take-suc-set (framed d) n b (omega (arith, framed_length d l))

  longer_outside : Outside n → b ≡ due_at n → take (suc n) (framed d) ≡ take n (framed d) ++ (b ∷ [])
  longer_outside o e = take-suc (framed d) n 0 (omega (arith, framed_length d l))
      ∙ ap (λ c. take n (framed d) ++ (c ∷ [])) (framed_due n d l u o ∙ sym e)

  -- A byte other than the one due makes no beginning of a frame.
  pub not_open : Outside n → ¬ (b ≡ due_at n) → ¬ Open (take n (framed d) ++ (b ∷ []))
  not_open o ne x =
      let p = take n (framed d) in
      let same : p ++ (b ∷ x.rest) ≡ framed x.held = sym (append_assoc p (b ∷ []) x.rest) ∙ x.spelled in
      let here = get_or_at p b x.rest 0 n (length-take-le n (framed d) (omega (arith, framed_length d l))) in
      ne (sym here ∙ ap (λ (s : List ℕ). get_or s n 0) same ∙ framed_due n x.held x.all_there u o)

module _ (n : ℕ) (u : n ≤ 29) (st : Stats) (d : List ℕ) (l : length d ≡ 24) (b : ℕ) where
  pub data Turn : Type 0 where
    goes_on : n < 29 → step_of n st b ≡ continued (n + 1) st
        → take (suc n) (framed (stored n d b)) ≡ take n (framed d) ++ (b ∷ []) → Turn
    goes_last : step_of n st b ≡ ended st → framed (stored n d b) ≡ take n (framed d) ++ (b ∷ []) → Turn
    goes_off : step_of n st b ≡ started (abandoned st n) b → stored n d b ≡ d
        → ¬ Open (take n (framed d) ++ (b ∷ [])) → Turn

  turn_inside : Inside n → Turn
  unfolding step_of
  turn_inside i = goes_on (omega arith) (among_inside n (continued (n + 1) st) (where_due n st b) i)
      (longer_inside n u d l b i)

  module _ (o : Outside n) where
    same_buffer : stored n d b ≡ d
    unfolding stored
    same_buffer = among_outside n (set d (n - 4) b) d o

    step_due : step_of n st b ≡ where_due n st b
    unfolding step_of
    step_due = among_outside n (continued (n + 1) st) (where_due n st b) o

    turn_due : (e : b ≡ due_at n) → Dec (28 < n) → Turn
    unfolding where_due
    turn_due e (yes h) =
        let all : take (suc n) (framed d) ≡ framed d =
        take_all (suc n) (framed d) (omega (arith, framed_length d l)) in
        goes_last (step_due ∙ rw (eq-eqb b (due_at n) e, le-ltb n 29 (omega arith)))
        (rw same_buffer (sym all ∙ longer_outside n u d l b o e))
    turn_due e (no h) =
        goes_on (omega arith) (step_due ∙ rw (eq-eqb b (due_at n) e, lt-ltb n 29 (omega arith)))
        (rw same_buffer (longer_outside n u d l b o e))

    turn_by : (x : Bool) → eqb b (due_at n) ≡ x → Turn
    unfolding where_due
    turn_by true e = turn_due (eqb-true b (due_at n) e) (dec_le 29 n)
    turn_by false e = goes_off (step_due ∙ rw e) same_buffer (not_open n u d l b o (eqb-false b (due_at n) e))

  pub turn : Turn
  turn = ⊎_elim turn_inside (λ o. turn_by o (eqb b (due_at n)) refl) (inside? n)
