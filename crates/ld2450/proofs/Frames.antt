-- Frames: the test decides what is one, the reader finds its target bytes, and gives 1 to all other bytes.
use mathlib.Core.Path.{◌≡◌, refl, sym, ap, ◌∙◌}
use mathlib.Core.Logic.{◌≢◌, ◌⊎◌, inl, inr}
use mathlib.Core.List.{List, ◌++◌}
use mathlib.Core.Bool.{Bool, true, false, ◌&&◌, and-eq-true_iff, false≢true}
use Prim.Native.Nat.{ℕ, ◌-◌}
use native.Mathlib.Omega.{arith}
use lib.Dec.{eqb}
use lib.Pointwise.{pointwise}
use lib.ListN.{length, take, drop, length-append, length-take, length-drop, take-append-drop}
use lib.Seq.{take_at, drop_at, drop-drop}
use borrow.Author.Tests.{eqb-true, eq-eqb}
use Rattle.std.proofs.Common.{Some, None, Ok, Err, Bor}
use Rattle.std.specs.Array.{IsWholeChunk}
use Rattle.std.specs.Option.{MatchOption, IsSomeAnd, ok_or}
use Rattle.std.specs.declared.option.Option.{Option}
use Rattle.std.specs.declared.result.Result.{Result}
use Rattle.refusal.specs.Refusal.{Returned, returned}
use Rattle.refusal.specs.declared.Error.{Error}
use Rattle.refusal.specs.declared.Error.TheVariants.{InvalidFormat}
use Rattle.wire.specs.Bytes.{Bytes}
use Rattle.wire.specs.Equal.{same_bytes}
use Rattle.wire.proofs.Bytes.{bytes_append}
use Rattle.wire.proofs.Equality.{same_sound, same_complete, same_pairwise}
use Rattle.ld2450.specs.Target.{three_of}
use Rattle.ld2450.specs.Frame.{header, tail, framed, IsFrame, is_frame, held_in, no_targets, parsed_targets}
use Rattle.ld2450.specs.Frame.{ReadCauses, OneAnswer}
use Rattle.ld2450.specs.declared.targets.Target.{Target}

-- What is where in the frame around 24 target bytes.
module _ (d : List ℕ) (n : length d ≡ 24) where
  pub framed_held : held_in (framed d) ≡ d
  framed_held = take_at d tail 24 n

  pub framed_length : length (framed d) ≡ 30
  framed_length = rw (length-append d tail) (omega arith)

  pub framed_tested : is_frame (framed d) ≡ true
  unfolding is_frame
  framed_tested =
      rw (
        eq-eqb (length (framed d)) 30 framed_length,
        same_complete (take 4 (framed d)) header refl,
      ) (same_complete (drop 28 (framed d)) tail (drop_at d tail 24 n))

-- The frame around bytes is made of bytes.
pub framed_bytes : (d : List ℕ) → Bytes d → Bytes (framed d)
framed_bytes d h =
    bytes_append header (d ++ tail) (omega arith, (omega arith, (omega arith, (omega arith, tt))))
    (bytes_append d tail h (omega arith, (omega arith, tt)))

module _ (s : List ℕ) where
  -- A string is its first four bytes, the next 24 and the rest.
  parts_joined : (h t : List ℕ) → take 4 s ≡ h → drop 28 s ≡ t → s ≡ h ++ (held_in s ++ t)
  parts_joined h t first last =
      let rest = rw (drop-drop 24 4 s, last) at (take-append-drop 24 (drop 4 s)) in
      sym (rw (← first, rest) (take-append-drop 4 s))

  pub held_length : length s ≡ 30 → length (held_in s) ≡ 24
  held_length n = simp (length-take, length-drop) (omega arith)

  -- A string that passes the test is a frame, and a frame passes it.
  pub frame_sound : is_frame s ≡ true → IsFrame s
  unfolding is_frame
  frame_sound e =
      let h = (and-eq-true_iff (eqb (length s) 30) (same_bytes (take 4 s) header && same_bytes (drop 28 s) tail)).0 e in
      let k = (and-eq-true_iff (same_bytes (take 4 s) header) (same_bytes (drop 28 s) tail)).0 h.1 in
      record {
        held = held_in s;
        all_there = held_length (eqb-true (length s) 30 h.0);
        spelled = parts_joined header tail (same_sound (take 4 s) header k.0) (same_sound (drop 28 s) tail k.1);
      }

  pub frame_complete : IsFrame s → is_frame s ≡ true
  frame_complete f = rw f.spelled (framed_tested f.held f.all_there)

  pub frame_held : (f : IsFrame s) → held_in s ≡ f.held
  frame_held f = ap held_in f.spelled ∙ framed_held f.held f.all_there

  pub frame_length : is_frame s ≡ true → length s ≡ 30
  frame_length e =
      let f = frame_sound e in
      ap length f.spelled ∙ framed_length f.held f.all_there

  unframed : (IsFrame s → ⊥) → is_frame s ≡ false
  unframed other = go (is_frame s) refl
    where
      go : (b : Bool) → is_frame s ≡ b → b ≡ false
      go true e = absurd (other (frame_sound e))
      go false e = refl

  -- Which strings are frames, by what is left without the header and then without the tail, as std's functions take
  -- them off.
  pub header_off : pointwise eqb (take 4 s) header ≡ false → is_frame s ≡ false
  header_off h = unframed (λ f. false≢true (sym (rw f.spelled at h)))

  module _ (r : List ℕ) (e : r ≡ drop 4 s) where
    left_in : (f : IsFrame s) → r ≡ f.held ++ tail
    left_in f = e ∙ ap (drop 4) f.spelled

    pub tail_off : pointwise eqb (drop (length r - 2) r) tail ≡ false → is_frame s ≡ false
    tail_off h = unframed (λ f.
        let l : length r - 2 ≡ 24 = rw (left_in f, length-append f.held tail) (omega (arith, f.all_there)) in
        false≢true (sym (rw (l, left_in f, drop_at f.held tail 24 f.all_there) at h)))

    module _ (d : List ℕ) (i : d ≡ take (length r - 2) r) where
      pub length_off : length d ≢ 24 → is_frame s ≡ false
      length_off h = unframed (λ f.
          let l : length r - 2 ≡ 24 = rw (left_in f, length-append f.held tail) (omega (arith, f.all_there)) in
          h (ap length (i ∙ rw (l, left_in f) (take_at f.held tail 24 f.all_there)) ∙ f.all_there))

      pub held_found : pointwise eqb (take 4 s) header ≡ true → pointwise eqb (drop (length r - 2) r) tail ≡ true
          → length d ≡ 24 → (is_frame s ≡ true) × (d ≡ held_in s)
      held_found first last n =
          let h = same_sound (take 4 s) header (sym (same_pairwise (take 4 s) header) ∙ first) in
          let t = same_sound (drop (length r - 2) r) tail (sym (same_pairwise (drop (length r - 2) r) tail) ∙ last) in
          let rest : r ≡ d ++ tail = rw (i, ← t) (sym (take-append-drop (length r - 2) r)) in
          let f : IsFrame s = record {
            held = d;
            all_there = n;
            spelled = sym (take-append-drop 4 s)
                ∙ ap (λ (l : List ℕ). l ++ drop 4 s) h ∙ ap (λ (l : List ℕ). header ++ l) (sym e ∙ rest);
          } in
          (frame_complete f, sym (frame_held f))

      pub whole_held : (held : Option (Bor (List ℕ))) → pointwise eqb (take 4 s) header ≡ true
          → pointwise eqb (drop (length r - 2) r) tail ≡ true
          → MatchOption held (length d ≢ 24) (λ h. IsWholeChunk d h.now 24)
          → MatchOption held (is_frame s ≡ false) (λ h. (is_frame s ≡ true) × (h.now ≡ held_in s))
      whole_held None first last n = length_off n
      whole_held (Some h) first last n =
          let f = held_found first last n.long in
          (f.0, n.same ∙ f.1)

  -- The reader's answers.
  pub parsed_frame_lem : is_frame s ≡ true → parsed_targets s ≡ Ok (three_of (held_in s))
  unfolding parsed_targets
  parsed_frame_lem e = rw e

  pub parsed_other : is_frame s ≡ false → parsed_targets s ≡ Err InvalidFormat
  unfolding parsed_targets
  parsed_other e = rw e

  -- So the reader's answer by the bytes between header and tail, where there are such.
  pub read_told : (held : Option (Bor (List ℕ))) (targets : Option (List Target))
      → MatchOption held (is_frame s ≡ false) (λ d. (is_frame s ≡ true) × (d.now ≡ held_in s))
      → MatchOption held (targets ≡ None) (λ d. IsSomeAnd targets (λ ts. ts ≡ three_of d.now))
      → ok_or targets InvalidFormat ≡ parsed_targets s
  read_told None targets h k = rw (k, parsed_other h)
  read_told (Some d) None h k = absurd k
  read_told (Some d) (Some ts) h k = rw (parsed_frame_lem h.0, ← h.1, k)

  no_frame_lem : is_frame s ≡ false → ¬ IsFrame s
  no_frame_lem e f = let t = frame_complete f in let z : ◌≡◌ {A = ℕ} 0 1 = cc in omega arith

  frame_causes : is_frame s ≡ true → ReadCauses s (returned no_targets (parsed_targets s))
  frame_causes e = rw (parsed_frame_lem e) (record {
    accepted = (λ z. frame_sound e, λ f. refl);
    given = λ f. ap three_of (frame_held f);
    invalid = (λ z. absurd (omega arith), λ f. absurd (f (frame_sound e)));
    returned = inl refl;
  })

  other_causes : is_frame s ≡ false → ReadCauses s (returned no_targets (parsed_targets s))
  other_causes e = rw (parsed_other e) (record {
    accepted = (λ z. absurd (omega arith), λ f. absurd (other f));
    given = λ f. absurd (other f);
    invalid = (λ z. other, λ f. refl);
    returned = inr refl;
  })
    where
      other : IsFrame s → ⊥
      other = no_frame_lem e

  read_causes : (b : Bool) → is_frame s ≡ b → ReadCauses s (returned no_targets (parsed_targets s))
  read_causes true e = frame_causes e
  read_causes false e = other_causes e

  -- The causes leave no choice.
  refused_value : (r : Returned (List Target)) → r.number ≡ 1
      → (r.number ≡ 0) ⊎ (r ≡ record { number = 1; needed = 0; value = no_targets }) → r.value ≡ no_targets
  refused_value r n (inl z) = absurd (omega arith)
  refused_value r n (inr e) = ap (λ x. x.value) e

  answers_agree : (b : Bool) → is_frame s ≡ b → OneAnswer s
  answers_agree true e r q x y =
      let f = frame_sound e in (x.accepted.1 f ∙ sym (y.accepted.1 f), x.given f ∙ sym (y.given f))
  answers_agree false e r q x y =
      let m = x.invalid.1 (no_frame_lem e) in
      let n = y.invalid.1 (no_frame_lem e) in
      (m ∙ sym n, refused_value r m x.returned ∙ sym (refused_value q n y.returned))

  pub one_answer : OneAnswer s
  one_answer = answers_agree (is_frame s) refl

  -- So the reader's answer has its causes.
  pub read_shown : (r : Result (List Target) Error) → r ≡ parsed_targets s → ReadCauses s (returned no_targets r)
  read_shown r e = rw e (read_causes (is_frame s) refl)
