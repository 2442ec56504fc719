-- The framing of the LD2450's stream: its open strings and whole frames, which tests decide.
--   pattern   what is due at each place of a frame: a given byte, or any
--   link      the framing, with its laws
use mathlib.Core.Path.{◌≡◌, refl, sym, ap, ◌∙◌}
use mathlib.Core.List.{List, [], ◌∷◌, ◌++◌, append-nil, append_assoc}
use mathlib.Core.Option.{Option}
use Prim.Native.Nat.{ℕ, ◌≤◌}
use native.Mathlib.Omega.{arith}
use lib.Dec.{T}
use lib.ListN.{length, take, drop, replicate, length-append, take-append-drop}
use lib.Seq.{length-take-le}
use Rattle.framing.proofs.Framing.{Framing, Waits}
use Rattle.framing.proofs.Tests.{by_test}
use Rattle.framing.proofs.Fixed.{begins, fills, begins_prefix, fills_begins}
use Rattle.framing.proofs.Pattern.{given, any, fills_given, fills_any, given_filled, any_filled, fills_nil}
use Rattle.framing.proofs.Pattern.{begins_completed}
use Rattle.ld2450.specs.Frame.{header, tail, framed, IsFrame}
use Rattle.ld2450.proofs.Frames.{framed_length}
use Rattle.ld2450_parser.specs.Stream.{Open, Whole}

abbrev pattern : List (Option ℕ)
pattern = given header ++ (any 24 ++ given tail)

-- The tests decide `Open` and `Whole`.
framed_fills : (d : List ℕ) → length d ≡ 24 → T (fills pattern (framed d))
framed_fills d l =
    fills_given header (any 24 ++ given tail) (d ++ tail) (fills_any 24 d (given tail) tail l
    (fills_given tail [] [] tt))

pub fills_framed : (s : List ℕ) → T (fills pattern s) → IsFrame s
fills_framed s h =
    let x = given_filled header (any 24 ++ given tail) s h in
    let y = any_filled 24 (given tail) x.rest x.filled in
    let z = given_filled tail [] y.2.rest y.2.filled in
    let last : y.2.rest ≡ tail = z.spelled ∙ ap (λ (l : List ℕ). tail ++ l) (fills_nil z.rest z.filled) in
    record {
      held = y.0;
      all_there = y.1;
      spelled = x.spelled ∙ ap (λ (l : List ℕ). header ++ l)
          (y.2.spelled ∙ ap (λ (l : List ℕ). y.0 ++ l) last);
    }

pub open_begins : (s : List ℕ) → Open s → T (begins pattern s)
open_begins s o = begins_prefix pattern s o.rest
    (rw o.spelled (fills_begins pattern (framed o.held) (framed_fills o.held o.all_there)))

pub begins_open : (s : List ℕ) → T (begins pattern s) → Open s
begins_open s h =
    let x = begins_completed pattern s h in
    let w = fills_framed (s ++ x.0) x.1 in
    record { held = w.held; rest = x.0; all_there = w.all_there; spelled = w.spelled }

pub whole_fills : (s : List ℕ) → Whole s → T (fills pattern s)
whole_fills s w = rw w.spelled (framed_fills w.held w.all_there)

-- Lengths, and the other laws of a framing.
pub whole_length : (s : List ℕ) → Whole s → length s ≡ 30
whole_length s w = ap length w.spelled ∙ framed_length w.held w.all_there

open_length : (s : List ℕ) → Open s → length s ≤ 30
open_length s o =
    omega (arith, length-append s o.rest, ap length o.spelled, framed_length o.held o.all_there)

pub open_prefix : (s t : List ℕ) → Open (s ++ t) → Open s
open_prefix s t o = record {
  held = o.held;
  rest = t ++ o.rest;
  all_there = o.all_there;
  spelled = sym (append_assoc s t o.rest) ∙ o.spelled;
}

pub whole_open : (s : List ℕ) → Whole s → Open s
whole_open s w = record {
  held = w.held;
  rest = [];
  all_there = w.all_there;
  spelled = append-nil s ∙ w.spelled;
}

pub whole_ends : (s : List ℕ) (b : ℕ) → Whole s → ¬ Open (s ++ (b ∷ []))
whole_ends s b w o = omega (arith, open_length (s ++ (b ∷ [])) o, length-append s (b ∷ []), whole_length s w)

abbrev pub link : Framing
link = record {
  Open = Open;
  Whole = Whole;
  open? = λ s. by_test (begins pattern s) (λ e. begins_open s (rw e tt)) (λ e o. rw e at (open_begins s o));
  whole? = λ s. by_test (fills pattern s) (λ e. fills_framed s (rw e tt)) (λ e w. rw e at (whole_fills s w));
  laws = record {
    empty_open = record { held = replicate 24 0; rest = framed (replicate 24 0); all_there = refl; spelled = refl };
    empty_not_whole = λ w. omega (arith, whole_length [] w);
    open_prefix = open_prefix;
    whole_open = whole_open;
    whole_ends = whole_ends;
  };
}

pub is_frame_lem : (d : List ℕ) → length d ≡ 24 → IsFrame (framed d)
is_frame_lem d l = record { held = d; all_there = l; spelled = refl }

-- The first n bytes of a frame, at most 29, are open and not whole.
pub waits : (n : ℕ) (d : List ℕ) → length d ≡ 24 → n ≤ 29 → Waits link (take n (framed d))
waits n d l u =
    let p = take n (framed d) in
    let short : length p ≡ n = length-take-le n (framed d) (omega (arith, framed_length d l)) in (
      link.laws.open_prefix p (drop n (framed d))
          (rw (take-append-drop n (framed d)) (link.laws.whole_open (framed d) (is_frame_lem d l))),
      λ w. omega (arith, whole_length p w),
    )

-- No frame begins with another byte than AA.
pub first_not_open : (b : ℕ) → ¬ (b ≡ 0xAA) → ¬ Open (b ∷ [])
first_not_open b ne o = let e = o.spelled in ne (cc)
