-- The pending bytes of a well-formed scan are open and not whole, and `unfinished_at` is their number.
use mathlib.Core.Path.{◌≡◌, refl, sym, ap, ◌∙◌}
use mathlib.Core.List.{List, [], ◌∷◌, ◌++◌, append-nil}
use mathlib.Core.Bool.{true, and-eq-true_iff}
use Prim.Native.Nat.{ℕ, zero, suc, ◌+◌, ◌/◌, ◌%◌, ◌≤◌, ◌<◌}
use native.Mathlib.Omega.{arith}
use lib.Dec.{eqb, leb, ltb}
use lib.ListN.{length, take, drop, length-append, length-take, take-append-drop}
use lib.Seq.{length-take-le, drop_at}
use borrow.Author.Tests.{leb-true, ltb-true}
use Rattle.wire.specs.Number.{little, le_bytes}
use Rattle.wire.specs.Family.{header, tail}
use Rattle.wire.proofs.Families.{header_length, tail_length}
use Rattle.wire.specs.declared.Kind.{Kind}
use Rattle.stream.specs.Open.{Open, in_header, in_length, in_data, in_tail, Whole}
use Rattle.stream.specs.Length.{InRange, in_range}
use Rattle.scan.specs.Scan.{well_formed_in, well_formed, unfinished_in, unfinished_at}
use Rattle.scan.specs.Stands.{pending_in, pending_of}
use Rattle.scan.specs.declared.State.{State}
use Rattle.scan.specs.declared.State.TheVariants.{Header, Len, Data, Tail}
use Rattle.scan.specs.declared.Scan.{Scan}
use Rattle.stream.proofs.Words.{range_true}

-- A whole frame is ten bytes longer than the data length that it announces.
whole_length : (limit : ℕ) (s : List ℕ) → Whole limit s → length s ≡ 10 + little (take 2 (drop 4 s))
whole_length limit s w =
    let r : List ℕ = w.lo ∷ w.hi ∷ (w.held ++ tail w.kind) in
    let rest : drop 4 s ≡ r = rw w.spelled (drop_at (header w.kind) r 4 (header_length w.kind)) in
    rw rest (omega (
      arith,
      ap length w.spelled,
      length-append (header w.kind) r,
      header_length w.kind,
      length-append w.held (tail w.kind),
      tail_length w.kind,
      w.all_there,
    ))

module _ (limit : ℕ) where
  -- A string shorter than that is no whole frame.
  short : (s : List ℕ) → length s < 10 + little (take 2 (drop 4 s)) → ¬ Whole limit s
  short s l h = omega (arith, whole_length limit s h)

  -- A part of the header.
  header_waits : (k : Kind) (m : ℕ) → m ≤ 3
      → Open limit (take m (header k)) × (¬ Whole limit (take m (header k)))
  header_waits k m l = (
    in_header k (drop m (header k), take-append-drop m (header k)),
    short (take m (header k)) (omega (arith, length-take m (header k))),
  )

  -- A header, and the first length byte or none.
  length_waits : (k : Kind) (m n : ℕ) → m ≤ 1
      → Open limit (header k ++ take m (n ∷ [])) × (¬ Whole limit (header k ++ take m (n ∷ [])))
  length_waits k zero n l = (
    in_header k ([], rw (append-nil (header k), append-nil (header k))),
    short (header k ++ []) (omega (arith, length-append (header k) [], header_length k)),
  )
  length_waits k (suc zero) n l = (
    in_length k n refl,
    short (header k ++ (n ∷ [])) (omega (arith, length-append (header k) (n ∷ []), header_length k)),
  )
  length_waits k (suc (suc m)) n l = absurd (omega arith)

  -- A header, a length in range and data bytes; then a part of the tail.
  module _ (k : Kind) (n : ℕ) (r : in_range limit n ≡ true) (small : limit < 65536)
      (buf : List ℕ) (room : n ≤ length buf) where
    again : little (le_bytes 2 n) ≡ n
    again = omega (arith, ((range_true limit n).0 r).1)

    is_in_range : InRange limit (little (le_bytes 2 n))
    is_in_range = rw again (((range_true limit n).0 r).0, ((range_true limit n).0 r).1)

    announced : (d : List ℕ) → little (take 2 (drop 4 (header k ++ (le_bytes 2 n ++ d)))) ≡ n
    announced d = rw (drop_at (header k) (le_bytes 2 n ++ d) 4 (header_length k)) again

    data_size : (d : List ℕ) → length (header k ++ (le_bytes 2 n ++ d)) ≡ 6 + length d
    data_size d = omega (arith, length-append (header k) (le_bytes 2 n ++ d), header_length k)

    data_waits : (p : ℕ) → p < n → Open limit (header k ++ (le_bytes 2 n ++ take p buf))
        × (¬ Whole limit (header k ++ (le_bytes 2 n ++ take p buf)))
    data_waits p l = (
      in_data k (n % 256) (n / 256 % 256) (take p buf) is_in_range (rw again (omega (arith, length-take p buf))) refl,
      short _ (omega (arith, announced (take p buf), data_size (take p buf), length-take p buf)),
    )

    tail_size : (m : ℕ) → m ≤ 3 → length (take n buf ++ take m (tail k)) ≡ n + m
    tail_size m l = omega (
      arith,
      length-append (take n buf) (take m (tail k)),
      length-take-le n buf room,
      length-take m (tail k),
      tail_length k,
    )

    tail_waits : (m : ℕ) → m ≤ 3 → Open limit (header k ++ (le_bytes 2 n ++ (take n buf ++ take m (tail k))))
        × (¬ Whole limit (header k ++ (le_bytes 2 n ++ (take n buf ++ take m (tail k)))))
    tail_waits m l = (
      in_tail k (n % 256) (n / 256 % 256) (take n buf) (take m (tail k)) is_in_range
          (length-take-le n buf room ∙ sym again) (drop m (tail k), take-append-drop m (tail k)) refl,
      short _ (omega (
        arith,
        announced (take n buf ++ take m (tail k)),
        data_size (take n buf ++ take m (tail k)),
        tail_size m l,
      )),
    )

-- In every state.
module _ (limit : ℕ) (small : limit < 65536) (buf : List ℕ) (room : limit ≤ length buf) where
  waits_in : (s : State) (k : Kind) (m n p : ℕ) → well_formed_in limit s m n p ≡ true
      → Open limit (pending_in s k m n p buf) × (¬ Whole limit (pending_in s k m n p buf))
  waits_in Header k m n p o = header_waits limit k m (leb-true m 3 o)
  waits_in Len k m n p o = length_waits limit k m n (leb-true m 1 ((and-eq-true_iff (leb m 1) _).0 o).0)
  waits_in Data k m n p o =
      let h = (and-eq-true_iff (in_range limit n) (ltb p n)).0 o in
      data_waits limit k n h.0 small buf (omega (arith, ((range_true limit n).0 h.0).1)) p (ltb-true p n h.1)
  waits_in Tail k m n p o =
      let h = (and-eq-true_iff (leb m 3) _).0 o in
      let r : in_range limit n ≡ true = ((and-eq-true_iff (in_range limit n) (eqb p n)).0 h.1).0 in
      tail_waits limit k n r small buf (omega (arith, ((range_true limit n).0 r).1)) m (leb-true m 3 h.0)

  length_in : (s : State) (k : Kind) (m n p : ℕ) → well_formed_in limit s m n p ≡ true
      → unfinished_in s m n p ≡ length (pending_in s k m n p buf)
  length_in Header k m n p o = omega (arith, leb-true m 3 o, length-take m (header k), header_length k)
  length_in Len k m n p o =
      let l : m ≤ 1 = leb-true m 1 ((and-eq-true_iff (leb m 1) _).0 o).0 in
      omega (arith, length-append (header k) (take m (n ∷ [])), length-take m (n ∷ []), header_length k)
  length_in Data k m n p o =
      let h = (and-eq-true_iff (in_range limit n) (ltb p n)).0 o in
      omega (
        arith,
        data_size limit k n h.0 small buf (omega (arith, ((range_true limit n).0 h.0).1)) (take p buf),
        length-take p buf,
        ((range_true limit n).0 h.0).1,
        ltb-true p n h.1,
      )
  length_in Tail k m n p o =
      let h = (and-eq-true_iff (leb m 3) _).0 o in
      let r : in_range limit n ≡ true = ((and-eq-true_iff (in_range limit n) (eqb p n)).0 h.1).0 in
      let fits : n ≤ length buf = omega (arith, ((range_true limit n).0 r).1) in
      omega (
        arith,
        data_size limit k n r small buf fits (take n buf ++ take m (tail k)),
        tail_size limit k n r small buf fits m (leb-true m 3 h.0),
      )

  pub waits : (c : Scan) → well_formed limit c ≡ true
      → Open limit (pending_of c buf) × (¬ Whole limit (pending_of c buf))
  unfolding well_formed pending_of
  waits c o = waits_in c.state c.kind c.matched c.len c.pos o

  pub pending_length : (c : Scan) → well_formed limit c ≡ true → unfinished_at c ≡ length (pending_of c buf)
  unfolding well_formed pending_of
  pending_length c o = length_in c.state c.kind c.matched c.len c.pos o
