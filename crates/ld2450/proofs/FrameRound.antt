-- Three targets and their frame: what is written is read back, and a frame as the writer writes it is written back.
use mathlib.Core.Path.{◌≡◌, refl, sym, ap, ◌∙◌}
use mathlib.Core.List.{List, [], ◌∷◌, ◌++◌}
use mathlib.Core.Bool.{Bool, true, false, ◌&&◌, and-eq-true_iff}
use Prim.Native.Nat.{ℕ, ◌+◌, ◌*◌, ◌≤◌}
use native.Mathlib.Omega.{arith}
use lib.ListN.{length, take, drop, length-append, length-take, length-drop, take-append-drop, drop_of_length-le}
use lib.Seq.{take_at, drop_at, drop-drop}
use Rattle.std.specs.Prelude.{IfOk}
use Rattle.refusal.specs.Refusal.{refusal_of, returned}
use Rattle.refusal.specs.declared.Error.TheVariants.{Unrepresentable}
use Rattle.wire.specs.Bytes.{Bytes, Every}
use Rattle.wire.proofs.Bytes.{bytes_append, bytes_take, bytes_drop}
use Rattle.writer.specs.RoundTrip.{Written}
use Rattle.writer.proofs.RoundTrip.{Agreed}
use Rattle.ld2450.specs.Target.{three_of}
use Rattle.ld2450.specs.Frame.{framed, is_frame, held_in, no_targets, parsed_targets}
use Rattle.ld2450.specs.Bytes.{target_bytes, targets_bytes, targets_frame, writable, all_writable}
use Rattle.ld2450.specs.RoundTrip.{ReadAs, target_frames}
use Rattle.ld2450.specs.declared.targets.Target.{Target}
use Rattle.ld2450.proofs.Frames.{framed_held, framed_tested, framed_bytes, held_length, frame_length}
use Rattle.ld2450.proofs.Frames.{frame_sound, frame_held, parsed_frame_lem, parsed_other}
use Rattle.ld2450.proofs.TargetRound.{Eight, target_eight, target_read, target_plain, target_again}
use Rattle.ld2450.proofs.TargetRound.{target_writable}
use Rattle.ld2450.proofs.Typed.{TypedTarget, TypedTargets}

-- Three strings of eight bytes, joined, can be taken apart again; any 24 bytes are three such strings.
pub record Parts (d a b c : List ℕ) : Type 0 where
  pub first : take 8 d ≡ a
  pub second : take 8 (drop 8 d) ≡ b
  pub third : take 8 (drop 16 d) ≡ c

parts_of : (a b c : List ℕ) → length a ≡ 8 → length b ≡ 8 → length c ≡ 8 → Parts (a ++ (b ++ (c ++ []))) a b c
parts_of a b c la lb lc =
    let one = drop_at a (b ++ (c ++ [])) 8 la in
    let two = sym (drop-drop 8 8 (a ++ (b ++ (c ++ [])))) ∙ ap (drop 8) one ∙ drop_at b (c ++ []) 8 lb in
    record {
      first = take_at a (b ++ (c ++ [])) 8 la;
      second = rw one (take_at b (c ++ []) 8 lb);
      third = rw two (take_at c [] 8 lc);
    }

parts_joined : (d : List ℕ) → length d ≡ 24
    → take 8 d ++ (take 8 (drop 8 d) ++ (take 8 (drop 16 d) ++ [])) ≡ d
parts_joined d n =
    let ended = drop_of_length-le d {i = 24} (omega arith) in
    let third = rw (drop-drop 8 16 d, ended) at (take-append-drop 8 (drop 16 d)) in
    let second = rw (drop-drop 8 8 d) at (take-append-drop 8 (drop 8 d)) in
    rw (third, second) (take-append-drop 8 d)

-- Each target has eight bytes.
pub targets_length : (ts : List Target) → length (targets_bytes ts) ≡ 8 * length ts
targets_length [] = refl
targets_length (t ∷ ts) = simp length-append (omega (arith, (target_eight t).size, targets_length ts))

targets_bytes_lem : (ts : List Target) → Bytes (targets_bytes ts)
targets_bytes_lem [] = tt
targets_bytes_lem (t ∷ ts) =
    bytes_append (target_bytes t) (targets_bytes ts) (target_eight t).bytes (targets_bytes_lem ts)

-- What is written for three targets.
module _ (a b c : Target) where
  abbrev three : List Target
  three = a ∷ b ∷ c ∷ []

  three-parts : Parts (targets_bytes three) (target_bytes a) (target_bytes b) (target_bytes c)
  three-parts =
      parts_of (target_bytes a) (target_bytes b) (target_bytes c) (target_eight a).size (target_eight b).size
      (target_eight c).size

  each_writable : all_writable three ≡ true → (writable a ≡ true) × (writable b ≡ true) × (writable c ≡ true)
  each_writable e =
      let x = (and-eq-true_iff (writable a) (writable b && (writable c && true))).0 e in
      let y = (and-eq-true_iff (writable b) (writable c && true)).0 x.1 in
      let z = (and-eq-true_iff (writable c) true).0 y.1 in
      (x.0, y.0, z.0)

  module _ (h : Every TypedTarget three) (e : all_writable three ≡ true) where
    three_read : three_of (targets_bytes three) ≡ three
    three_read =
        let p = three-parts in
        let w = each_writable e in
        rw (
          p.first,
          p.second,
          p.third,
          target_read a h.0 w.0,
          target_read b h.1.0 w.1,
          target_read c h.1.1.0 w.2,
        )

    three_written : Written target_frames three (targets_frame three)
    three_written =
        let d = targets_bytes three in
        let held = framed_held d (targets_length three) in
        let p = three-parts in
        let w = each_writable e in
        record {
          within = tt;
          kept = rw (held, p.first, p.second, p.third)
              (target_plain a h.0 w.0, target_plain b h.1.0 w.1, target_plain c h.1.1.0 w.2);
          read = parsed_frame_lem (framed d) (framed_tested d (targets_length three)) ∙ rw (held, three_read);
        }

-- A string s that is read as the targets ts.
module _ (s : List ℕ) (ts : List Target) where
  pub record Read : Type 0 where
    pub frame : is_frame s ≡ true
    pub value : three_of (held_in s) ≡ ts

  read_by : (p : Bool) → is_frame s ≡ p → ReadAs s ts → Read
  read_by true e r =
      record { frame = e; value = ap (λ x. (returned no_targets x).value) (sym (parsed_frame_lem s e) ∙ r) }
  read_by false e r =
      let z : ◌≡◌ {A = ℕ} 1 0 = ap refusal_of (sym (parsed_other s e) ∙ r) in
      absurd (omega arith)

  read_sound : ReadAs s ts → Read
  read_sound = read_by (is_frame s) refl

  module _ (r : ReadAs s ts) where
    read_writable : all_writable ts ≡ true
    read_writable =
        let d = held_in s in
        rw (
          ← (read_sound r).value,
          target_writable (take 8 d),
          target_writable (take 8 (drop 8 d)),
          target_writable (take 8 (drop 16 d)),
        )

    -- The eight bytes of each target; and the frame is written back if they are as the writer writes them.
    held_eight : Bytes s → (n : ℕ) → n + 8 ≤ 24 → Eight (take 8 (drop n (held_in s)))
    held_eight h n l =
        let size = frame_length s (read_sound r).frame in
        record {
          size = simp (length-take, length-drop) (omega arith);
          bytes = bytes_take 8 (drop n (held_in s))
              (bytes_drop n (held_in s) (bytes_take 24 (drop 4 s) (bytes_drop 4 s h)));
        }

    read_again : Bytes s → target_frames.Kept s → targets_frame ts ≡ s
    read_again h k =
        let d = held_in s in
        let read = read_sound r in
        let f = frame_sound s read.frame in
        rw (
          ← read.value,
          target_again (take 8 d) (held_eight h 0 (omega arith)) k.0,
          target_again (take 8 (drop 8 d)) (held_eight h 8 (omega arith)) k.1,
          target_again (take 8 (drop 16 d)) (held_eight h 16 (omega arith)) k.2,
          parts_joined d (held_length s (frame_length s read.frame)),
          frame_held s f,
        ) (sym f.spelled)

-- The targets of any answer of the reader can be written.
answer_by : (s : List ℕ) (p : Bool) → is_frame s ≡ p → IfOk (parsed_targets s) (λ ts. all_writable ts ≡ true)
answer_by s true e =
    let d = held_in s in
    rw (
      parsed_frame_lem s e,
      target_writable (take 8 d),
      target_writable (take 8 (drop 8 d)),
      target_writable (take 8 (drop 16 d)),
    )
answer_by s false e = rw (parsed_other s e) tt

pub answer_writable : (s : List ℕ) → IfOk (parsed_targets s) (λ ts. all_writable ts ≡ true)
answer_writable s = answer_by s (is_frame s) refl

-- So the writer and the reader agree on three targets.
three_agreed : (a b c : Target) → Every TypedTarget (three a b c)
    → Agreed target_frames (three a b c) Unrepresentable (all_writable (three a b c))
three_agreed a b c h = record {
  refused = refl;
  number = refl;
  apart = λ z. omega arith;
  some = λ z. omega arith;
  bytes = λ g. framed_bytes (targets_bytes (three a b c)) (targets_bytes_lem (three a b c));
  written = λ g. three_written a b c h g;
  found = λ s b' w r. read_writable s (three a b c) r;
  again = λ s b' w k r. read_again s (three a b c) r b' k;
}

pub agreed : (ts : List Target) → TypedTargets ts → Agreed target_frames ts Unrepresentable (all_writable ts)
agreed [] h = absurd (omega arith)
agreed (a ∷ []) h = absurd (omega arith)
agreed (a ∷ b ∷ []) h = absurd (omega arith)
agreed (a ∷ b ∷ c ∷ []) h = three_agreed a b c h.each
agreed (a ∷ b ∷ c ∷ d ∷ ts) h = absurd (omega arith)
