-- The reader's answer, from its checks: those of the envelope, then those of the body.
use mathlib.Core.Path.{◌≡◌, refl, ap, subst, ◌∙◌}
use mathlib.Core.List.{List, [], ◌∷◌}
use Prim.Native.Nat.{ℕ, ◌+◌, ◌-◌, ◌<◌}
use lib.ListN.{length, take, drop}
use Rattle.std.specs.Prelude.{Some, None, Ok, Err}
use Rattle.std.specs.declared.option.Option.{Option}
use Rattle.refusal.specs.Refusal.{or_error, returned}
use Rattle.refusal.specs.Check.{Checks, or_failed, first_failed, told_by, Causes}
use Rattle.refusal.proofs.Checks.{causes, failed_before, passed_before}
use Rattle.refusal.specs.declared.Check.{Check}
use Rattle.refusal.specs.declared.Check.TheVariants.{F1}
use Rattle.wire.specs.Family.{framed}
use Rattle.wire.specs.declared.Kind.{Kind}
use Rattle.wire.proofs.Framed.{framed_within}
use Rattle.frame.specs.Envelope.{family, announced, data_of, frame_checks, opened_as, envelope}
use Rattle.frame.specs.declared.envelope.Envelope.{Envelope}
use Rattle.frame.proofs.Opened.{around, failed_first, opened_data, opened_part}
use Rattle.frame.proofs.Framed.{opened_framed}
use Rattle.frame.specs.Frame.{body_checks, on_data, then_body, checks_for, frame_of}
use Rattle.frame.specs.Frame.{decoded, checked_as, checked_frame, parsed_frame}
use Rattle.frame.specs.Frame.{no_fields, fields_of, returned_frame}
use Rattle.frame.specs.declared.Frame.{Frame}

-- Checks of the data, made on the frame around them.
pub on_data_lem : (cs : Checks) (s : List ℕ) → first_failed (on_data cs) s ≡ first_failed cs (data_of s)
on_data_lem [] s = refl
on_data_lem (x ∷ cs) s = ap (λ o. or_failed (x.1 (data_of s)) x.0 o) (on_data_lem cs s)

module _ (s : List ℕ) where
  pub fails_framing : (c : Check) → envelope s ≡ Err c → checked_frame s ≡ Err c
  unfolding checked_frame envelope
  fails_framing c e = go (family s) e
    where
      go : (o : Option Kind) → opened_as o (first_failed frame_checks s) (6 + announced s) ≡ Err c
          → checked_as o s ≡ Err c
      go (Some k) q = rw (failed_before s (then_body (family s)) frame_checks c (failed_first s c e))
      go None q = cc

  pub passes_framing : (v : Envelope) → envelope s ≡ Ok v → checked_frame s ≡ decoded 10 v.kind (data_of s)
  unfolding checked_frame decoded
  passes_framing v e =
      let h = opened_data s v e in
      ap (λ o. checked_as o s) h.announces ∙ rw (
        passed_before s (then_body (family s)) frame_checks h.passed,
        h.announces,
        on_data_lem (body_checks v.kind) s,
      )

  -- The same of the part of the bytes that the code takes for the data.
  pub passes_part : (v : Envelope) → envelope s ≡ Ok v
      → checked_frame s ≡ decoded 10 v.kind (take (v.end - 6) (drop 6 s))
  passes_part v e = rw (opened_part s v e).part (passes_framing v e)

-- A frame is read as its data are.
pub checked_framed : (k : Kind) (d : List ℕ) → length d < 65536 → checked_frame (framed k d) ≡ decoded 10 k d
checked_framed k d small =
    passes_framing (framed k d) (around k (6 + length d)) (opened_framed k d small)
    ∙ ap (decoded 10 k) (framed_within k d small)

-- What is returned for the first failed check.
as_returned : (o : Option Check) (x : Frame)
    → returned_frame (told_by (or_error o x)) ≡ returned no_fields (told_by (or_error o (fields_of x)))
as_returned (Some c) x = refl
as_returned None x = refl

-- The clause `causes` of the contract of `parse`.
pub parsed_causes : (s : List ℕ) → Causes no_fields (checks_for s) s (returned_frame (parsed_frame s))
unfolding parsed_frame checked_frame
parsed_causes s = go (family s) refl
  where
    go : (o : Option Kind) → family s ≡ o
        → Causes no_fields (checks_for s) s (returned_frame (told_by (checked_as o s)))
    go (Some k) e =
        let x = frame_of 10 k (data_of s) in
        rw (as_returned (first_failed (checks_for s) s) x) (causes (checks_for s) s no_fields (fields_of x))
    go None e =
        let fails : first_failed (checks_for s) s ≡ Some F1 = rw e in
        subst (λ o. Causes no_fields (checks_for s) s (returned no_fields (told_by (or_error o no_fields)))) fails
        (causes (checks_for s) s no_fields no_fields)
