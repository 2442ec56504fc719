-- The steps of a scan in a header and in the length follow the scanner's.
use mathlib.Core.Path.{◌≡◌, refl, sym, ◌∙◌}
use mathlib.Core.List.{List, [], ◌∷◌, ◌++◌, append-nil, append_assoc}
use mathlib.Core.Bool.{Bool, true, false, cond}
use Prim.Native.Nat.{ℕ, zero, suc, ◌+◌, ◌*◌, ◌/◌, ◌%◌, ◌≤◌, ◌<◌}
use native.Mathlib.Numerals.{add-one}
use native.Mathlib.Omega.{arith}
use lib.Dec.{eqb}
use lib.ListN.{length, take, get_or, length-append}
use lib.Seq.{take-suc, take_all, length-take-le}
use borrow.Author.Tests.{le-leb, lt-ltb, eq-eqb, ne_eqb, eqb-true, eqb-false}
use Rattle.wire.specs.Number.{little, le_bytes}
use Rattle.wire.specs.Family.{header}
use Rattle.wire.specs.declared.Kind.{Kind}
use Rattle.framing.proofs.Scanner as Scanner
use Rattle.stream.specs.Length.{in_range}
use Rattle.stream.proofs.Link.{link}
use Rattle.wire.proofs.Families.{header_length}
use Rattle.stream.proofs.Steps.{header_opens, header_not_whole, length_opens, length_not_whole}
use Rattle.stream.proofs.Steps.{data_opens, data_not_whole}
use Rattle.scan.specs.Scan.{at, well_formed}
use Rattle.scan.specs.Stands.{pending_of}
use Rattle.scan.specs.Start.{continued, abandoned, start_of}
use Rattle.step.specs.Step.{step_header, step_len}
use Rattle.scan.specs.declared.State.TheVariants.{Header, Len, Data}
use Rattle.scan.specs.declared.stats.Stats.{Stats}
use Rattle.step.proofs.Follow.{Capped, Follows, follows_on, follows_start, follows_break}
use Rattle.stream.proofs.Words.{range_true}

-- The first m bytes of a word and its next byte are its first m + 1 bytes.
pub word_grows : (w : List ℕ) (m b : ℕ) → m < length w → b ≡ get_or w m 0 → take m w ++ (b ∷ []) ≡ take (suc m) w
word_grows w m b l e = rw (take-suc w m 0 l, e)

module _ (limit : ℕ) (st : Stats) (cap : Capped st) (buf : List ℕ) (b : ℕ) where
  -- In a header, after one or more of its bytes.
  module _ (k : Kind) (m : ℕ) (l : m < 3) where
    header_on : b ≡ get_or (header k) (suc m) 0 → (x : Bool) → eqb (suc m) 3 ≡ x
        → Follows limit (cond x (continued (at Len k 0 0 0) st) (continued (at Header k (suc m + 1) 0 0) st)) st buf
        (Scanner.step (link limit) (take (suc m) (header k)) b)
    unfolding well_formed pending_of
    header_on e true q =
        let z : suc m ≡ 3 = eqb-true (suc m) 3 q in
        let all : length (header k) ≤ suc (suc m) = omega (arith, header_length k) in
        follows_on limit buf (at Len k 0 0 0) st (take (suc m) (header k)) b cap refl
        (append-nil (header k) ∙ sym (take_all (suc (suc m)) (header k) all)
        ∙ sym (word_grows (header k) (suc m) b (omega (arith, header_length k)) e))
        (header_opens limit k m b l ∙ eq-eqb b _ e) (header_not_whole limit k m b l)
    header_on e false q =
        let z : (suc m ≡ 3 → ⊥) = eqb-false (suc m) 3 q in
        follows_on limit buf (at Header k (suc m + 1) 0 0) st (take (suc m) (header k)) b cap
        (le-leb (suc m + 1) 3 (omega arith))
        (rw (add-one (suc m)) (sym (word_grows (header k) (suc m) b (omega (arith, header_length k)) e)))
        (header_opens limit k m b l ∙ eq-eqb b _ e) (header_not_whole limit k m b l)

    header_as : (x : Bool) → eqb b (get_or (header k) (suc m) 0) ≡ x
        → Follows limit (cond x
        (cond (eqb (suc m) 3) (continued (at Len k 0 0 0) st) (continued (at Header k (suc m + 1) 0 0) st))
        (start_of (abandoned st (suc m)) b)) st buf (Scanner.step (link limit) (take (suc m) (header k)) b)
    header_as true e = header_on (eqb-true b _ e) (eqb (suc m) 3) refl
    header_as false e = follows_break limit buf st (take (suc m) (header k)) b (suc m) cap (omega arith)
        (length-take-le (suc m) (header k) (omega (arith, header_length k))) (header_opens limit k m b l ∙ e)

  pub header_follows : (k : Kind) (m : ℕ) → m ≤ 3
      → Follows limit (step_header k m st b) st buf (Scanner.step (link limit) (take m (header k)) b)
  header_follows k zero l = follows_start limit buf st b cap
  header_follows k (suc m) l =
      rw (ne_eqb (suc m) 0 (λ z. absurd (omega arith))) (header_as k m (omega arith) _ refl)

  -- In the length: the first byte, and the second.
  first_follows : (k : Kind) → b < 256
      → Follows limit (continued (at Len k 1 b 0) st) st buf (Scanner.step (link limit) (header k ++ []) b)
  unfolding well_formed pending_of
  first_follows k l =
      follows_on limit buf (at Len k 1 b 0) st (header k ++ []) b cap (rw (le-leb b 255 (omega arith)))
      (rw (append-nil (header k))) (rw (append-nil (header k)) (length_opens limit k b))
      (rw (append-nil (header k)) (length_not_whole limit k b))

  module _ (k : Kind) (n : ℕ) (small : n ≤ 255) (byte : b < 256) where
    -- The two bytes as a number, and the number as two bytes.
    two_bytes : little (n ∷ b ∷ []) ≡ n + 256 * b
    two_bytes = omega arith

    one_number : le_bytes 2 (n + 256 * b) ≡ n ∷ b ∷ []
    one_number =
        let quotient : (n + 256 * b) / 256 ≡ b = omega arith in
        let lo : (n + 256 * b) % 256 ≡ n = omega arith in
        let hi : b % 256 ≡ b = omega arith in
        rw (quotient, lo, hi)

    second_as : (x : Bool) → in_range limit (n + 256 * b) ≡ x
        → Follows limit (cond x (continued (at Data k 0 (n + 256 * b) 0) st) (start_of (abandoned st 5) b)) st buf
        (Scanner.step (link limit) (header k ++ (n ∷ [])) b)
    unfolding well_formed pending_of
    second_as true e =
        follows_on limit buf (at Data k 0 (n + 256 * b) 0) st (header k ++ (n ∷ [])) b cap
        (rw (e, lt-ltb 0 (n + 256 * b) (omega (arith, ((range_true limit (n + 256 * b)).0 e).0))))
        (rw (one_number, append_assoc (header k) (n ∷ []) (b ∷ [])))
        (rw (append_assoc (header k) (n ∷ []) (b ∷ [])) (data_opens limit k n b [] (omega arith) ∙ rw two_bytes e))
        (rw (append_assoc (header k) (n ∷ []) (b ∷ [])) (data_not_whole limit k n b [] (omega arith)))
    second_as false e =
        follows_break limit buf st (header k ++ (n ∷ [])) b 5 cap (omega arith)
        (omega (arith, length-append (header k) (n ∷ []), header_length k))
        (rw (append_assoc (header k) (n ∷ []) (b ∷ [])) (data_opens limit k n b [] (omega arith) ∙ rw two_bytes e))

  pub length_follows : (k : Kind) (m n : ℕ) → b < 256 → m ≤ 1 → n ≤ 255
      → Follows limit (step_len limit k m n st b) st buf (Scanner.step (link limit) (header k ++ take m (n ∷ [])) b)
  length_follows k zero n byte l small = first_follows k byte
  length_follows k (suc zero) n byte l small = second_as k n small byte (in_range limit (n + 256 * b)) refl
  length_follows k (suc (suc m)) n byte l small = absurd (omega arith)
