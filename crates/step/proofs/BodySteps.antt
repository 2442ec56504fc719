-- The steps of a scan among the data bytes and in a tail follow the scanner's.
use mathlib.Core.Path.{◌≡◌, refl, sym, ap, ◌∙◌}
use mathlib.Core.List.{List, [], ◌∷◌, ◌++◌, append-nil, append_assoc}
use mathlib.Core.Bool.{Bool, true, false, cond}
use Prim.Native.Nat.{ℕ, suc, ◌+◌, ◌/◌, ◌%◌, ◌≤◌, ◌<◌}
use native.Mathlib.Numerals.{add-one}
use native.Mathlib.Omega.{arith}
use lib.Dec.{eqb, ltb}
use lib.ListN.{length, take, get_or, set, length-append, length-take}
use lib.Seq.{take_all, take-suc-set, length-take-le}
use borrow.Author.Tests.{le-leb, ltb-false, eq-eqb, eqb-true, eqb-false}
use Rattle.wire.specs.Number.{little, le_bytes}
use Rattle.wire.specs.Family.{header, tail}
use Rattle.wire.specs.declared.Kind.{Kind}
use Rattle.framing.proofs.Scanner as Scanner
use Rattle.stream.specs.Length.{in_range}
use Rattle.stream.proofs.Scan.{opens, wholes}
use Rattle.stream.proofs.Link.{link}
use Rattle.wire.proofs.Families.{header_length, tail_length}
use Rattle.stream.proofs.Steps.{data_opens, data_not_whole, tail_opens, tail_not_whole, tail-whole}
use Rattle.scan.specs.Scan.{at, hunting, well_formed}
use Rattle.scan.specs.Stands.{pending_of}
use Rattle.scan.specs.Start.{frame_ended, continued, abandoned, start_of}
use Rattle.scan.specs.declared.State.TheVariants.{Data, Tail}
use Rattle.scan.specs.declared.Scan.{Scan}
use Rattle.scan.specs.declared.stats.Stats.{Stats}
use Rattle.step.proofs.Follow.{Capped, Follows, follows_on, follows_end, follows_break}
use Rattle.stream.proofs.Words.{range_true}
use Rattle.step.proofs.HeadSteps.{word_grows}

-- A header, the length n, and the bytes d.
abbrev sized : Kind → ℕ → List ℕ → List ℕ
sized k n d = header k ++ (le_bytes 2 n ++ d)

sized_more : (k : Kind) (n : ℕ) (d t : List ℕ) → sized k n d ++ t ≡ sized k n (d ++ t)
sized_more k n d t =
    append_assoc (header k) (le_bytes 2 n ++ d) t ∙ ap (λ x. header k ++ x) (append_assoc (le_bytes 2 n) d t)

module _ (limit : ℕ) (st : Stats) (cap : Capped st) (buf : List ℕ) (b : ℕ) where
  -- Among the data bytes and in the tail, after a length n in range. Its two bytes are read back as n.
  module _ (k : Kind) (n : ℕ) (r : in_range limit n ≡ true) (limit-small : limit < 65536) where
    again : little (le_bytes 2 n) ≡ n
    again = omega (arith, ((range_true limit n).0 r).1)

    -- With at most n data bytes, it is open and not whole.
    opens_data : (d : List ℕ) → length d ≤ n → opens limit (sized k n d) ≡ true
    opens_data d l = data_opens limit k (n % 256) (n / 256 % 256) d (rw again l) ∙ rw again r

    whole_data : (d : List ℕ) → length d ≤ n → wholes limit (sized k n d) ≡ false
    whole_data d l = data_not_whole limit k (n % 256) (n / 256 % 256) d (rw again l)

    -- A data byte is stored after those before it.
    module _ (p : ℕ) (l : p < n) (room : n ≤ length buf) where
      abbrev came : List ℕ
      came = sized k n (take p buf)

      stored_more : take (suc p) (set buf p b) ≡ take p buf ++ (b ∷ [])
      stored_more = take-suc-set buf p b (omega arith)

      came_more : came ++ (b ∷ []) ≡ sized k n (take (suc p) (set buf p b))
      came_more = sized_more k n (take p buf) (b ∷ [])
          ∙ ap (sized k n) (sym stored_more)

      fewer : length (take (suc p) (set buf p b)) ≤ n
      fewer = omega (arith, length-take (suc p) (set buf p b))

      data_on : (c : Scan) → well_formed limit c ≡ true
          → pending_of c (set buf p b) ≡ sized k n (take (suc p) (set buf p b))
          → Follows limit (continued c st) st (set buf p b) (Scanner.step (link limit) came b)
      data_on c i e = follows_on limit (set buf p b) c st came b cap i (e ∙ sym came_more)
          (rw came_more (opens_data (take (suc p) (set buf p b)) fewer))
          (rw came_more (whole_data (take (suc p) (set buf p b)) fewer))

      pub data_as : (x : Bool) → ltb (p + 1) n ≡ x
          → Follows limit (cond x (continued (at Data k 0 n (p + 1)) st) (continued (at Tail k 0 n n) st)) st
          (set buf p b) (Scanner.step (link limit) came b)
      unfolding well_formed pending_of
      data_as true e = data_on (at Data k 0 n (p + 1)) (rw (r, e)) (rw (add-one p))
      data_as false e =
          let z : n ≡ suc p = omega (arith, ltb-false (p + 1) n e) in
          data_on (at Tail k 0 n n) (rw (r, eq-eqb n n refl))
          (ap (sized k n) (append-nil (take n (set buf p b)) ∙ ap (λ i. take i (set buf p b)) z))

    -- In the tail, after all the data bytes.
    module _ (m : ℕ) (l : m ≤ 3) (room : n ≤ length buf) where
      abbrev whole_data_came : List ℕ
      whole_data_came = sized k n (take n buf ++ take m (tail k))

      tail_room : length (take n buf) ≡ little (le_bytes 2 n)
      tail_room = length-take-le n buf room ∙ sym again

      tail_came : whole_data_came ++ (b ∷ []) ≡ sized k n (take n buf ++ (take m (tail k) ++ (b ∷ [])))
      tail_came = sized_more k n (take n buf ++ take m (tail k)) (b ∷ [])
          ∙ ap (sized k n) (append_assoc (take n buf) (take m (tail k)) (b ∷ []))

      in_range_again : in_range limit (little (le_bytes 2 n)) ≡ true
      in_range_again = rw again r

      tail_next : opens limit (whole_data_came ++ (b ∷ [])) ≡ eqb b (get_or (tail k) m 0)
      tail_next = rw tail_came (tail_opens limit k (n % 256) (n / 256 % 256) (take n buf) tail_room in_range_again m b
          (omega arith))

      tail_grown : b ≡ get_or (tail k) m 0
          → whole_data_came ++ (b ∷ []) ≡ sized k n (take n buf ++ take (suc m) (tail k))
      tail_grown e = tail_came ∙ ap (λ x. sized k n (take n buf ++ x))
          (word_grows (tail k) m b (omega (arith, tail_length k)) e)

      tail_on : b ≡ get_or (tail k) m 0 → (x : Bool) → eqb m 3 ≡ x
          → Follows limit (cond x (record { scan = hunting; stats = st; ended = frame_ended k n })
          (continued (at Tail k (m + 1) n n) st)) st buf (Scanner.step (link limit) whole_data_came b)
      unfolding well_formed pending_of
      tail_on e true q =
          let z : m ≡ 3 = eqb-true m 3 q in
          let all : take (suc m) (tail k) ≡ tail k = take_all (suc m) (tail k) (omega (arith, tail_length k)) in
          let grown : whole_data_came ++ (b ∷ []) ≡ sized k n (take n buf ++ tail k) =
          tail_grown e ∙ ap (λ x. sized k n (take n buf ++ x)) all in
          follows_end limit buf k n st whole_data_came b cap ((range_true limit n).0 r).1 (sym grown)
          (rw grown (tail-whole limit k (n % 256) (n / 256 % 256) (take n buf) tail_room in_range_again))
      tail_on e false q =
          let z : (m ≡ 3 → ⊥) = eqb-false m 3 q in
          follows_on limit buf (at Tail k (m + 1) n n) st whole_data_came b cap
          (rw (le-leb (m + 1) 3 (omega arith), r, eq-eqb n n refl))
          (rw (add-one m) (sym (tail_grown e))) (tail_next ∙ eq-eqb b _ e)
          (rw tail_came (tail_not_whole limit k (n % 256) (n / 256 % 256) (take n buf) tail_room in_range_again m b
          (omega arith)))

      tail_size : length whole_data_came ≡ 6 + n + m
      tail_size = omega (
        arith,
        length-append (header k) (le_bytes 2 n ++ (take n buf ++ take m (tail k))),
        header_length k,
        length-append (take n buf) (take m (tail k)),
        length-take-le n buf room,
        length-take-le m (tail k) (rw (tail_length k) (omega arith)),
      )

      pub tail_as : (x : Bool) → eqb b (get_or (tail k) m 0) ≡ x
          → Follows limit (cond x (cond (eqb m 3) (record { scan = hunting; stats = st; ended = frame_ended k n })
          (continued (at Tail k (m + 1) n n) st)) (start_of (abandoned st (6 + n + m)) b)) st buf
          (Scanner.step (link limit) whole_data_came b)
      tail_as true e = tail_on (eqb-true b _ e) (eqb m 3) refl
      tail_as false e =
          follows_break limit buf st whole_data_came b (6 + n + m) cap (omega arith) tail_size (tail_next ∙ e)
