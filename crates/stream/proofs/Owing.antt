-- How many data bytes a pending string still takes, and that clean frames use them up.
use mathlib.Core.Path.{◌≡◌, refl, sym, ◌∙◌, ap, subst}
use mathlib.Core.List.{List, [], ◌∷◌, ◌++◌, append-nil, append_assoc}
use Prim.Native.Nat.{ℕ, zero, suc, ◌+◌, ◌-◌, ◌≤◌, ◌<◌}
use native.Mathlib.Decide.{dec_le}
use native.Mathlib.Omega.{arith}
use lib.ListN.{length, take, drop, length-append, take-append-drop}
use lib.Seq.{length-take-le, take_all, take-append_seam}
use Rattle.wire.specs.Bytes.{Every}
use Rattle.wire.specs.Number.{little}
use Rattle.wire.specs.Family.{header, tail}
use Rattle.wire.specs.declared.Kind.{Kind}
use Rattle.wire.specs.declared.Kind.TheVariants.{Report, Command}
use Rattle.wire.proofs.Families.{header_length, tail_length}
use Rattle.framing.proofs.Framing.{Waits}
use Rattle.framing.proofs.Scanner.{Step, step, rest}
use Rattle.framing.proofs.View.{step_on}
use Rattle.framing.proofs.Rest.{rest_append, rest_on, rest_whole, strays_over}
use Rattle.stream.specs.Length.{InRange}
use Rattle.stream.specs.Open.{Prefix, Open, in_header, in_length, in_data, in_tail, Whole}
use Rattle.stream.specs.Recovery.{Clean, joined}
use Rattle.std.proofs.lemmas.Bool.{false_from_ne_true}
use Rattle.stream.proofs.Words.{range_true}
use Rattle.stream.proofs.Steps.{length_not_whole, data_not_whole}
use Rattle.stream.proofs.Link.{link, not_open, not_whole}
use Rattle.stream.proofs.Traps.{length_opened}
use Rattle.stream.proofs.Idle.{second, second_plain}
use Rattle.stream.proofs.Idle.{Idle, Ready, first, idle_ready, header_ready, ready_if, plain_strays, whole_as}
use Rattle.stream.proofs.Clean.{Quiet, quiet_drop, quiet_idle, second_high}
use Rattle.stream.proofs.Clean.{kind, body, after_first, spelled, body_quiet, after_first_quiet}

first_high : (k : Kind) → 2 < first k
first_high Report = omega arith
first_high Command = omega arith

module _ (limit : ℕ) (small : limit ≤ 512) where
  -- A pending string that is ready, or is a header alone, or takes at most b more data bytes.
  pub data Bound (b : ℕ) (p : List ℕ) : Type 0 where
    ready : Ready limit p → Bound b p
    at_header : (k : Kind) → p ≡ header k → 1 ≤ b → Bound b p
    owing : (k : Kind) (lo hi : ℕ) (d : List ℕ) (r : ℕ) → InRange limit (little (lo ∷ hi ∷ []))
        → length d + suc r ≡ little (lo ∷ hi ∷ []) → suc r ≤ b → p ≡ header k ++ (lo ∷ hi ∷ d) → Bound b p

  bound_over : {p : List ℕ} → Bound 0 p → Ready limit p
  bound_over (ready h) = h
  bound_over (at_header k e l) = absurd (omega arith)
  bound_over (owing k lo hi d r i e l q) = absurd (omega arith)

  idle_bound : {b : ℕ} {p : List ℕ} → Idle limit p → Bound b p
  idle_bound i = ready (idle_ready limit i)

  -- After a header and one length byte, a byte above 2 makes no length in range.
  length-ends : (k : Kind) (b c : ℕ) → 2 < c → ¬ Open limit ((header k ++ (b ∷ [])) ++ (c ∷ []))
  length-ends k b c h = not_open limit _ (length_opened limit k b c ∙ false_from_ne_true _ (λ e.
      let r = (range_true limit (little (b ∷ c ∷ []))).0 e in omega (arith, r.1)))

  length_ready : (k : Kind) (b : ℕ) → Ready limit (header k ++ (b ∷ []))
  length_ready k b = ready_if limit (header k ++ (b ∷ [])) (λ j. length-ends k b (first j) (first_high j))

  -- Every pending string is one of the three, with `limit` for b.
  header_bound : (k : Kind) (p : List ℕ) (m : ℕ) → p ≡ take m (header k) → m ≤ 4 → 1 ≤ limit → Bound limit p
  header_bound k p zero e l h = rw e (idle_bound Idle.empty)
  header_bound k p (suc m) e l h = go (dec_le m 2)
    where
      go : Dec (m ≤ 2) → Bound limit p
      go (yes u) = rw e (ready (header_ready limit k m (omega arith)))
      go (no u) = at_header k (e ∙ take_all (suc m) (header k) (omega (arith, header_length k))) h

  data_bound : (k : Kind) (lo hi : ℕ) (d p : List ℕ) → InRange limit (little (lo ∷ hi ∷ []))
      → length d ≤ little (lo ∷ hi ∷ []) → p ≡ header k ++ (lo ∷ hi ∷ d) → Bound limit p
  data_bound k lo hi d p r l e = go (little (lo ∷ hi ∷ []) - length d) refl
    where
      go : (n : ℕ) → little (lo ∷ hi ∷ []) - length d ≡ n → Bound limit p
      go zero q = idle_bound (Idle.in_tail k lo hi d 0 r (omega arith) (omega arith) (e ∙ rw append-nil))
      go (suc n) q = owing k lo hi d n r (omega arith) (omega (arith, r.1)) e

  -- A prefix t of a word is its first `length t` bytes.
  prefix-take : (t w : List ℕ) → Prefix t w → (t ≡ take (length t) w) × (length t ≤ length w)
  prefix-take t w q = (
    sym (take-append_seam t q.0) ∙ ap (take (length t)) q.1,
    omega (arith, length-append t q.0, ap length q.1),
  )

  tail_bound : (k : Kind) (lo hi : ℕ) (d t p : List ℕ) → InRange limit (little (lo ∷ hi ∷ []))
      → length d ≡ little (lo ∷ hi ∷ []) → Prefix t (tail k) → p ≡ header k ++ (lo ∷ hi ∷ (d ++ t))
      → ¬ Whole limit p → Bound limit p
  tail_bound k lo hi d t p r l q e n = go (dec_le (length t) 3)
    where
      short : (t ≡ take (length t) (tail k)) × (length t ≤ length (tail k))
      short = prefix-take t (tail k) q

      go : Dec (length t ≤ 3) → Bound limit p
      go (yes u) = idle_bound (Idle.in_tail k lo hi d (length t) r l (omega arith)
          (e ∙ ap (λ (x : List ℕ). header k ++ (lo ∷ hi ∷ (d ++ x))) short.0))
      go (no u) =
          let x : t ≡ tail k = short.0 ∙ take_all (length t) (tail k) (omega (arith, tail_length k)) in
          absurd (n (whole_as limit k lo hi d r l (e ∙ ap (λ (y : List ℕ). header k ++ (lo ∷ hi ∷ (d ++ y))) x)))

  open_bound : (p : List ℕ) → 1 ≤ limit → ¬ Whole limit p → Open limit p → Bound limit p
  open_bound p h n (in_header k q) =
      let s = prefix-take p (header k) q in header_bound k p (length p) s.0 (omega (arith, s.1, header_length k)) h
  open_bound p h n (in_length k b e) = ready (rw e (length_ready k b))
  open_bound p h n (in_data k lo hi d r l e) = data_bound k lo hi d p r l e
  open_bound p h n (in_tail k lo hi d t r l q e) = tail_bound k lo hi d t p r l q e n

  -- After one clean frame.
  module _ (f : List ℕ) (x : Clean limit f) where
    abbrev k : Kind
    k = kind limit f x

    -- A string that is ready: the frame is read from its first byte on.
    first_on : (q : List ℕ) → Ready limit q
        → rest (link limit) q f ≡ rest (link limit) (first k ∷ []) (after_first limit f x)
    first_on q h = ap (rest (link limit) q) (spelled limit f x)
        ∙ ap (λ (p : List ℕ). rest (link limit) p (after_first limit f x)) (h k)

    ready_frame : (q : List ℕ) → Ready limit q → rest (link limit) q f ≡ []
    ready_frame q h =
        first_on q h ∙ sym (first_on [] (idle_ready limit Idle.empty)) ∙ rest_whole (link limit) f x.0

    -- A header alone: it takes the first two bytes for a length, which is out of range.
    header_frame : (j : Kind) → Idle limit (rest (link limit) (header j) f)
    header_frame j =
        let one = step_on (link limit) (header j) (first k)
        (in_length j (first k) refl, not_whole limit _ (length_not_whole limit j (first k))) in
        let two = strays_over (link limit) (header j ++ (first k ∷ [])) (second k)
        (plain_strays limit (second k) (second_plain k)) (length-ends j (first k) (second k) (second_high k)) in
        let none : rest (link limit) (header j) (first k ∷ second k ∷ []) ≡ [] =
        ap (λ (r : Step). (step (link limit) r.pending (second k)).pending) one ∙ two in
        rw (spelled limit f x) (subst (λ (l : List ℕ). Idle limit (rest (link limit) l (body limit f x)))
        (sym none) (quiet_idle limit (body_quiet limit f x small) [] Idle.empty))

    -- A string that takes data bytes: it takes some of the frame, and the rest is quiet.
    module _ (j : Kind) (lo hi : ℕ) (d : List ℕ) (r : ℕ) (i : InRange limit (little (lo ∷ hi ∷ [])))
        (e : length d + suc r ≡ little (lo ∷ hi ∷ [])) where
      abbrev p : List ℕ
      p = header j ++ (lo ∷ hi ∷ d)

      waits : (u : List ℕ) → length u ≤ suc r → Waits (link limit) (header j ++ (lo ∷ hi ∷ (d ++ u)))
      waits u l =
          let n : length (d ++ u) ≤ little (lo ∷ hi ∷ []) = omega (arith, length-append d u) in
          (in_data j lo hi (d ++ u) i n refl, not_whole limit _ (data_not_whole limit j lo hi (d ++ u) n))

      taken : (u : List ℕ) → length u ≤ suc r → rest (link limit) p u ≡ header j ++ (lo ∷ hi ∷ (d ++ u))
      taken u l =
          let q : p ++ u ≡ header j ++ (lo ∷ hi ∷ (d ++ u)) = append_assoc (header j) (lo ∷ hi ∷ d) u in
          rest_on (link limit) p u (rw append-nil at (waits [] (omega arith))) (rw q (waits u l)) ∙ q

      past : suc r ≤ length f → Idle limit (rest (link limit) p f)
      past l =
          let u : List ℕ = take (suc r) f in
          let t : length u ≡ suc r = length-take-le (suc r) f l in
          let all : length (d ++ u) ≡ little (lo ∷ hi ∷ []) = omega (arith, length-append d u) in
          let y : Idle limit (rest (link limit) p u) =
          Idle.in_tail j lo hi (d ++ u) 0 i all (omega arith) (taken u (omega arith) ∙ rw append-nil) in
          let q : Quiet (drop (suc r) f) =
          rw (spelled limit f x) (quiet_drop r (after_first_quiet limit f x small)) in
          subst (λ (g : List ℕ). Idle limit (rest (link limit) p g)) (take-append-drop (suc r) f)
          (rw (rest_append (link limit) p u (drop (suc r) f)) (quiet_idle limit q (rest (link limit) p u) y))

      owing_frame : (b : ℕ) → suc r ≤ b → Bound (b - length f) (rest (link limit) p f)
      owing_frame b l = go (dec_le (suc r) (length f))
        where
          go : Dec (suc r ≤ length f) → Bound (b - length f) (rest (link limit) p f)
          go (yes h) = idle_bound (past h)
          go (no h) = owing j lo hi (d ++ f) (r - length f) i (omega (arith, length-append d f)) (omega arith)
              (taken f (omega arith))

    frame_bound : (b : ℕ) (q : List ℕ) → Bound b q → Bound (b - length f) (rest (link limit) q f)
    frame_bound b q (ready h) = rw (ready_frame q h) (idle_bound Idle.empty)
    frame_bound b q (at_header j e l) = rw e (idle_bound (header_frame j))
    frame_bound b q (owing j lo hi d r i e l z) = rw z (owing_frame j lo hi d r i e b l)

  frames_bound : (fs : List (List ℕ)) → Every (Clean limit) fs → (b : ℕ) (q : List ℕ) → Bound b q
      → Bound (b - length (joined fs)) (rest (link limit) q (joined fs))
  frames_bound [] h b q x = let z : b - 0 ≡ b = omega arith in rw z x
  frames_bound (f ∷ fs) h b q x =
      let z : b - length (joined (f ∷ fs)) ≡ b - length f - length (joined fs) =
      omega (arith, length-append f (joined fs)) in
      rw (z, rest_append (link limit) q f (joined fs))
      (frames_bound fs h.1 (b - length f) (rest (link limit) q f) (frame_bound f h.0 b q x))

  -- After `limit` bytes of clean frames the next one is read from its first byte on.
  pub frames_ready : 1 ≤ limit → (p : List ℕ) → Waits (link limit) p → (early : List (List ℕ))
      → Every (Clean limit) early → limit ≤ length (joined early) → Ready limit (rest (link limit) p (joined early))
  frames_ready h p w early c l =
      let z : limit - length (joined early) ≡ 0 = omega arith in
      bound_over (rw z at (frames_bound early c limit p (open_bound p h w.1 w.0)))
