-- Idle strings, empty or a frame that lacks only bytes of its tail, and what is pending after one more byte.
use mathlib.Core.Path.{◌≡◌, sym, ◌∙◌, ap}
use mathlib.Core.Logic.{◌⊎◌, inl, inr, ⊎_elim}
use mathlib.Core.List.{List, [], ◌∷◌, ◌++◌}
use mathlib.Core.Bool.{false, not, ◌&&◌}
use Prim.Native.Nat.{ℕ, zero, suc, ◌≤◌, ◌<◌}
use native.Mathlib.Decide.{ℕ_discrete, dec_le}
use native.Mathlib.Omega.{arith}
use lib.Dec.{T, eqb, eqb→eq}
use lib.ListN.{length, get_or, take, drop}
use lib.Seq.{take-suc, take_all}
use borrow.Author.Tests.{ne_eqb}
use Rattle.wire.specs.Bytes.{Every}
use Rattle.wire.specs.Number.{little}
use Rattle.wire.specs.Family.{header, tail}
use Rattle.wire.specs.declared.Kind.{Kind}
use Rattle.wire.specs.declared.Kind.TheVariants.{Report, Command}
use Rattle.wire.proofs.Families.{tail_length}
use Rattle.framing.proofs.Framing.{Waits}
use Rattle.framing.proofs.Scanner.{Step, step, rest}
use Rattle.framing.proofs.View.{Does, does_end, does_open, does_stray, does_break, does, step_on}
use Rattle.framing.proofs.Rest.{starts_over, strays_over}
use Rattle.stream.specs.Length.{InRange}
use Rattle.stream.specs.Open.{Open, Whole}
use Rattle.stream.specs.Recovery.{Plain}
use Rattle.stream.proofs.Opens.{opens_complete}
use Rattle.stream.proofs.Steps.{first_opens, start_not_whole, header_opens}
use Rattle.stream.proofs.Link.{link, is_open, not_open, not_whole}
use Rattle.stream.proofs.Begins.{stray_bytes}
use Rattle.stream.proofs.Traps.{tail_spelled, tail_goes_on}

abbrev pub first : Kind → ℕ
first k = get_or (header k) 0 0

pub small_plain : (c : ℕ) → c < 3 → Plain c
small_plain c h = ((λ e. absurd (omega arith)), (λ e. absurd (omega arith)))

-- A byte is plain, or the first of a header.
pub plain_or_first : (b : ℕ) → Plain b ⊎ ((k : Kind) × (b ≡ first k))
plain_or_first b = go (ℕ_discrete b 0xF4) (ℕ_discrete b 0xFD)
  where
    go : Dec (b ≡ 0xF4) → Dec (b ≡ 0xFD) → Plain b ⊎ ((k : Kind) × (b ≡ first k))
    go (yes e) o = inr (Report, e)
    go (no n) (yes e) = inr (Command, e)
    go (no n) (no m) = inl (n, m)

-- The bytes of a header after its first, and those of a tail, are plain.
literal : (b : ℕ) → T (not (eqb b 0xF4) && not (eqb b 0xFD)) → Plain b
literal b h = ((λ e. rw e at h), (λ e. rw e at h))

abbrev pub second : Kind → ℕ
second k = get_or (header k) 1 0

pub second_plain : (k : Kind) → Plain (second k)
second_plain Report = literal 0xF3 tt
second_plain Command = literal 0xFC tt

abbrev pub others : Kind → List ℕ
others k = drop 2 (header k)

pub others_plain : (k : Kind) → Every Plain (others k)
others_plain Report = (literal 0xF2 tt, (literal 0xF1 tt, tt))
others_plain Command = (literal 0xFB tt, (literal 0xFA tt, tt))

pub tail_plain : (k : Kind) → Every Plain (tail k)
tail_plain Report = (literal 0xF8 tt, (literal 0xF7 tt, (literal 0xF6 tt, (literal 0xF5 tt, tt))))
tail_plain Command = (literal 0x04 tt, (literal 0x03 tt, (literal 0x02 tt, (literal 0x01 tt, tt))))

-- So none of them begins a header.
apart : (j : Kind) (w : List ℕ) (m : ℕ) → Every Plain w → m < length w → eqb (first j) (get_or w m 0) ≡ false
apart j [] m h u = absurd (omega arith)
apart Report (x ∷ w) zero h u = ne_eqb 0xF4 x (λ e. h.0.0 (sym e))
apart Command (x ∷ w) zero h u = ne_eqb 0xFD x (λ e. h.0.1 (sym e))
apart j (x ∷ w) (suc m) h u = apart j w m h.1 (omega arith)

pub tail_apart : (j k : Kind) (m : ℕ) → m < 4 → eqb (first j) (get_or (tail k) m 0) ≡ false
tail_apart j k m u = apart j (tail k) m (tail_plain k) (omega (arith, tail_length k))

pub header_apart : (j k : Kind) (m : ℕ) → m < 3 → eqb (first j) (get_or (header k) (suc m) 0) ≡ false
header_apart j Report m u = apart j (drop 1 (header Report)) m (second_plain Report, others_plain Report) u
header_apart j Command m u = apart j (drop 1 (header Command)) m (second_plain Command, others_plain Command) u

module _ (limit : ℕ) where
  -- Empty, or a frame with only the first m bytes of its tail, m below 4.
  pub data Idle : List ℕ → Type 0 where
    empty : Idle []
    in_tail : {p : List ℕ} (k : Kind) (lo hi : ℕ) (d : List ℕ) (m : ℕ) → InRange limit (little (lo ∷ hi ∷ []))
        → length d ≡ little (lo ∷ hi ∷ []) → m < 4 → p ≡ header k ++ (lo ∷ hi ∷ (d ++ take m (tail k))) → Idle p

  -- After the string p, the first byte of a header is all that is pending.
  abbrev pub Ready : List ℕ → Type 0
  Ready p = (j : Kind) → (step (link limit) p (first j)).pending ≡ first j ∷ []

  pub first_waits : (j : Kind) → Waits (link limit) (first j ∷ [])
  first_waits j = (is_open limit _ (first_opens limit j), not_whole limit _ (start_not_whole limit (first j)))

  pub ready_if : (p : List ℕ) → ((j : Kind) → ¬ Open limit (p ++ (first j ∷ []))) → Ready p
  ready_if p n j = starts_over (link limit) p (first j) (first_waits j) (n j)

  pub plain_strays : (c : ℕ) → Plain c → ¬ Open limit (c ∷ [])
  plain_strays c h = (stray_bytes limit c).1 h

  pub idle_ready : {p : List ℕ} → Idle p → Ready p
  idle_ready empty =
      λ j. ap (λ (r : Step). r.pending) (step_on (link limit) [] (first j) (first_waits j))
  idle_ready {p} (in_tail k lo hi d m r l u e) = ready_if p (λ j.
      not_open limit _ (rw e (tail_goes_on limit k lo hi d m r l u (first j) ∙ tail_apart j k m u)))

  -- The first byte of any header breaks a part of a header.
  pub header_ready : (k : Kind) (m : ℕ) → m < 3 → Ready (take (suc m) (header k))
  header_ready k m u = ready_if (take (suc m) (header k)) (λ j.
      not_open limit _ (header_opens limit k m (first j) u ∙ header_apart j k m u))

  abbrev pub whole_as : {s : List ℕ} (k : Kind) (lo hi : ℕ) (d : List ℕ) → InRange limit (little (lo ∷ hi ∷ []))
      → length d ≡ little (lo ∷ hi ∷ []) → s ≡ header k ++ (lo ∷ hi ∷ (d ++ tail k)) → Whole limit s
  whole_as k lo hi d r l e =
      record { kind = k; lo = lo; hi = hi; held = d; is_in_range = r; all_there = l; spelled = e }

  -- A byte that keeps such a string open is the next of the tail.
  module _ {p : List ℕ} (k : Kind) (lo hi : ℕ) (d : List ℕ) (m : ℕ) (r : InRange limit (little (lo ∷ hi ∷ [])))
      (l : length d ≡ little (lo ∷ hi ∷ [])) (u : m < 4)
      (e : p ≡ header k ++ (lo ∷ hi ∷ (d ++ take m (tail k)))) (c : ℕ) where
    longer : Open limit (p ++ (c ∷ [])) → p ++ (c ∷ []) ≡ header k ++ (lo ∷ hi ∷ (d ++ take (suc m) (tail k)))
    longer o =
        let next : T (eqb c (get_or (tail k) m 0)) =
        rw (e, tail_goes_on limit k lo hi d m r l u c) at (opens_complete limit (p ++ (c ∷ [])) o) in
        rw (e, eqb→eq c (get_or (tail k) m 0) next, take-suc (tail k) m 0 (omega (arith, tail_length k)))
        (tail_spelled limit k lo hi d m r l u (get_or (tail k) m 0))

    tail_on : Waits (link limit) (p ++ (c ∷ [])) → Idle (p ++ (c ∷ []))
    tail_on w = go (dec_le m 2)
      where
        go : Dec (m ≤ 2) → Idle (p ++ (c ∷ []))
        go (yes h) = in_tail k lo hi d (suc m) r l (omega arith) (longer w.0)
        go (no h) = absurd (w.1 (whole_as k lo hi d r l
            (longer w.0 ∙ rw (take_all (suc m) (tail k) (omega (arith, tail_length k))))))

  idle_open : {p : List ℕ} (c : ℕ) → Plain c → Idle p → Waits (link limit) (p ++ (c ∷ [])) → Idle (p ++ (c ∷ []))
  idle_open c h empty w = absurd (plain_strays c h w.0)
  idle_open c h (in_tail k lo hi d m r l u e) w = tail_on k lo hi d m r l u e c w

  does_plain : {p : List ℕ} {c : ℕ} {r : Step} → Plain c → Does (link limit) p c r → Idle p → Idle r.pending
  does_plain h (does_end x) i = empty
  does_plain h (does_open {p} {c} w) i = idle_open c h i w
  does_plain h (does_stray x) i = empty
  does_plain h (does_break x d) i = does_plain h d empty

  pub idle_plain : (p : List ℕ) (c : ℕ) → Plain c → Idle p → Idle (step (link limit) p c).pending
  idle_plain p c h i = does_plain h (does (link limit) p c) i

  -- The first byte of a header and a byte below 3 are not open.
  pub second_apart : (k : Kind) (c : ℕ) → c < 3 → ¬ Open limit (first k ∷ c ∷ [])
  second_apart Report c h = not_open limit _ (header_opens limit Report 0 c (omega arith) ∙ ne_eqb c 0xF3 (λ e.
      absurd (omega arith)))
  second_apart Command c h = not_open limit _ (header_opens limit Command 0 c (omega arith) ∙ ne_eqb c 0xFC (λ e.
      absurd (omega arith)))

  -- Any byte, and then one below 3, leave an idle string.
  pub idle_pair : (p : List ℕ) (b c : ℕ) → c < 3 → Idle p → Idle (rest (link limit) p (b ∷ c ∷ []))
  idle_pair p b c h i = ⊎_elim
      (λ n. idle_plain (step (link limit) p b).pending c (small_plain c h) (idle_plain p b n i))
      (λ x. rw (
        x.1,
        idle_ready i x.0,
        strays_over (link limit) (first x.0 ∷ []) c
            (plain_strays c (small_plain c h)) (second_apart x.0 c h),
      ) empty)
      (plain_or_first b)
