-- What one more byte makes of a string that waits: in a header, in a length, among the data bytes, in a tail.
use mathlib.Core.Path.{◌≡◌, refl, ap, ◌∙◌}
use mathlib.Core.List.{List, [], ◌∷◌, ◌++◌}
use mathlib.Core.Bool.{Bool, true, false, ◌&&◌, and-true, and-false, cond}
use Prim.Native.Nat.{ℕ, zero, suc, ◌≤◌, ◌<◌}
use native.Mathlib.Omega.{arith}
use lib.Dec.{eqb}
use borrow.Author.Tests.{eq-eqb, eqb-true}
use lib.ListN.{length, get_or, take, drop, length-drop, drop_of_length-le}
use lib.Seq.{drop_at}
use Rattle.wire.specs.Number.{little}
use Rattle.wire.specs.Family.{header, tail, starting_with}
use Rattle.wire.proofs.Families.{tail_length}
use Rattle.wire.specs.declared.Kind.{Kind}
use Rattle.wire.specs.declared.Kind.TheVariants.{Report, Command}
use Rattle.std.specs.declared.option.Option.{Option}
use Rattle.std.specs.Prelude.{Some, None}
use Rattle.stream.specs.Length.{in_range}
use Rattle.stream.proofs.Scan.{after, at_end, reads_length, reads, reads_as, opens, wholes}
use Rattle.stream.proofs.Headers.{opens_header, wholes_header}

-- A part of a word and one more byte: the byte must be the word's next.
word_next : (cut : Bool) (w : List ℕ) (next : List ℕ → Bool) (m b : ℕ) → m < length w
    → after cut w next (take m w ++ (b ∷ [])) ≡ eqb b (get_or w m 0) && after cut (drop (suc m) w) next []
word_next cut [] next m b l = absurd (omega arith)
word_next cut (x ∷ w) next zero b l = refl
word_next cut (x ∷ w) next (suc m) b l = rw (eq-eqb x x refl) (word_next cut w next m b (omega arith))

-- At a string's end, a word that may be cut may be missing; others may not.
word_cut : (w : List ℕ) (next : List ℕ → Bool) → next [] ≡ true → after true w next [] ≡ true
word_cut [] next e = e
word_cut (x ∷ w) next e = refl

word_missing : (w : List ℕ) (next : List ℕ → Bool) → (length w ≡ 0 → next [] ≡ false) → after false w next [] ≡ false
word_missing [] next e = e refl
word_missing (x ∷ w) next e = refl

module _ (w : List ℕ) (next : List ℕ → Bool) (m b : ℕ) (l : m < length w) where
  next_opens : next [] ≡ true → after true w next (take m w ++ (b ∷ [])) ≡ eqb b (get_or w m 0)
  next_opens e =
      word_next true w next m b l ∙ ap (λ x. eqb b (get_or w m 0) && x) (word_cut (drop (suc m) w) next e)
      ∙ and-true (eqb b (get_or w m 0))

  next_missing : (length w ≡ suc m → next [] ≡ false) → after false w next (take m w ++ (b ∷ [])) ≡ false
  next_missing e =
      word_next false w next m b l
      ∙ ap (λ x. eqb b (get_or w m 0) && x)
      (word_missing (drop (suc m) w) next (λ z. e (omega (arith, length-drop (suc m) w))))
      ∙ and-false (eqb b (get_or w m 0))

tail_complete : (cut : Bool) (k : Kind) → after cut (tail k) at_end (tail k) ≡ true
tail_complete cut Report = refl
tail_complete cut Command = refl

-- The byte that announces a kind is the first of its header.
pub starting_sound : (b : ℕ) (k : Kind) → starting_with b ≡ Some k → b ≡ get_or (header k) 0 0
starting_sound b k e = go (eqb b 0xF4) refl (eqb b 0xFD) refl e
  where
    go : (x : Bool) → eqb b 0xF4 ≡ x → (y : Bool) → eqb b 0xFD ≡ y
        → cond x (Some Report) (cond y (Some Command) None) ≡ Some k → b ≡ get_or (header k) 0 0
    go true p y q e = let z : Report ≡ k = cc in rw (← z) (eqb-true b 0xF4 p)
    go false p true q e = let z : Command ≡ k = cc in rw (← z) (eqb-true b 0xFD q)
    go false p false q e = absurd (cc)

module _ (limit : ℕ) where
  -- With nothing before it: a byte begins a frame exactly if it is a header's first, F4 or FD.
  pub first_opens : (k : Kind) → opens limit (get_or (header k) 0 0 ∷ []) ≡ true
  unfolding opens reads
  first_opens Report = refl
  first_opens Command = refl

  pub start_opens : (b : ℕ) (k : Kind) → starting_with b ≡ Some k → opens limit (b ∷ []) ≡ true
  start_opens b k e = rw (starting_sound b k e) (first_opens k)

  pub start_strays : (b : ℕ) → starting_with b ≡ None → opens limit (b ∷ []) ≡ false
  unfolding opens
  start_strays b e = rw e

  one_missing : (o : Option Kind) (b : ℕ) → reads_as false limit o (b ∷ []) ≡ false
  unfolding reads
  one_missing (Some Report) b = and-false (eqb b 0xF4)
  one_missing (Some Command) b = and-false (eqb b 0xFD)
  one_missing None b = refl

  pub start_not_whole : (b : ℕ) → wholes limit (b ∷ []) ≡ false
  unfolding wholes
  start_not_whole b = one_missing (starting_with b) b

  -- Within a header: the byte must be the header's next.
  pub header_opens : (k : Kind) (m b : ℕ) → m < 3
      → opens limit (take (suc m) (header k) ++ (b ∷ [])) ≡ eqb b (get_or (header k) (suc m) 0)
  unfolding opens reads
  header_opens Report m b u = next_opens (header Report) (reads_length true limit Report) (suc m) b (omega arith) refl
  header_opens Command m b u = next_opens (header Command) (reads_length true limit Command) (suc m) b (omega arith) refl

  pub header_not_whole : (k : Kind) (m b : ℕ) → m < 3 → wholes limit (take (suc m) (header k) ++ (b ∷ [])) ≡ false
  unfolding wholes reads
  header_not_whole Report m b u =
      next_missing (header Report) (reads_length false limit Report) (suc m) b (omega arith) (λ z. refl)
  header_not_whole Command m b u =
      next_missing (header Command) (reads_length false limit Command) (suc m) b (omega arith) (λ z. refl)

  -- After a header: any byte, and then one that makes a length in range.
  pub length_opens : (k : Kind) (b : ℕ) → opens limit (header k ++ (b ∷ [])) ≡ true
  length_opens k b = opens_header limit k (b ∷ [])

  pub length_not_whole : (k : Kind) (b : ℕ) → wholes limit (header k ++ (b ∷ [])) ≡ false
  length_not_whole k b = wholes_header limit k (b ∷ [])

  -- After a length: data bytes, at most as many as it says; then all of them and a part of the tail.
  module _ (k : Kind) (lo hi : ℕ) (d : List ℕ) where
    pub data_opens : length d ≤ little (lo ∷ hi ∷ [])
        → opens limit (header k ++ (lo ∷ hi ∷ d)) ≡ in_range limit (little (lo ∷ hi ∷ []))
    data_opens l =
        opens_header limit k (lo ∷ hi ∷ d)
        ∙ rw (drop_of_length-le d l, word_cut (tail k) at_end refl) (and-true (in_range limit (little (lo ∷ hi ∷ []))))

    pub data_not_whole : length d ≤ little (lo ∷ hi ∷ []) → wholes limit (header k ++ (lo ∷ hi ∷ d)) ≡ false
    data_not_whole l =
        wholes_header limit k (lo ∷ hi ∷ d)
        ∙ rw (drop_of_length-le d l, word_missing (tail k) at_end (λ z. absurd (omega (arith, tail_length k))))
        (and-false (in_range limit (little (lo ∷ hi ∷ []))))

    module _ (l : length d ≡ little (lo ∷ hi ∷ [])) (r : in_range limit (little (lo ∷ hi ∷ [])) ≡ true) where
      -- What is after all the data bytes is read as the tail.
      tail-read : (cut : Bool) (t : List ℕ)
          → reads_length cut limit k (lo ∷ hi ∷ (d ++ t)) ≡ after cut (tail k) at_end t
      tail-read cut t = rw (drop_at d t (little (lo ∷ hi ∷ [])) l, r)

      pub tail_opens : (m b : ℕ) → m < 4
          → opens limit (header k ++ (lo ∷ hi ∷ (d ++ (take m (tail k) ++ (b ∷ []))))) ≡ eqb b (get_or (tail k) m 0)
      tail_opens m b u =
          opens_header limit k (lo ∷ hi ∷ (d ++ (take m (tail k) ++ (b ∷ []))))
          ∙ tail-read true (take m (tail k) ++ (b ∷ []))
          ∙ next_opens (tail k) at_end m b (omega (arith, tail_length k)) refl

      pub tail_not_whole : (m b : ℕ) → m < 3
          → wholes limit (header k ++ (lo ∷ hi ∷ (d ++ (take m (tail k) ++ (b ∷ []))))) ≡ false
      tail_not_whole m b u =
          wholes_header limit k (lo ∷ hi ∷ (d ++ (take m (tail k) ++ (b ∷ []))))
          ∙ tail-read false (take m (tail k) ++ (b ∷ []))
          ∙ next_missing (tail k) at_end m b (omega (arith, tail_length k))
          (λ z. absurd (omega (arith, tail_length k)))

      pub tail_open : opens limit (header k ++ (lo ∷ hi ∷ (d ++ tail k))) ≡ true
      tail_open = opens_header limit k (lo ∷ hi ∷ (d ++ tail k)) ∙ tail-read true (tail k) ∙ tail_complete true k

      pub tail-whole : wholes limit (header k ++ (lo ∷ hi ∷ (d ++ tail k))) ≡ true
      tail-whole = wholes_header limit k (lo ∷ hi ∷ (d ++ tail k)) ∙ tail-read false (tail k) ∙ tail_complete false k
