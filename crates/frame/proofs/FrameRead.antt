-- The reader gives a frame exactly if the string is a frame around data that pass the checks of its kind; it is what
-- these data are read as. One law for reports and acknowledgements.
use mathlib.Core.Path.{◌≡◌, refl}
use mathlib.Core.List.{List}
use Prim.Native.Nat.{ℕ, ◌<◌}
use lib.ListN.{length}
use Rattle.std.specs.Prelude.{Some, None, Ok, Err}
use Rattle.std.specs.declared.option.Option.{Option}
use Rattle.std.specs.declared.result.Result.{Result}
use Rattle.refusal.specs.Refusal.{or_error}
use Rattle.refusal.specs.Check.{Passes, first_failed, told_by}
use Rattle.refusal.proofs.Checks.{passes_sound, passes_complete}
use Rattle.refusal.specs.declared.Check.{Check}
use Rattle.wire.specs.Bytes.{Bytes}
use Rattle.wire.specs.Family.{framed}
use Rattle.wire.specs.declared.Kind.{Kind}
use Rattle.wire.specs.declared.Kind.TheVariants as Family
use Rattle.frame.specs.Envelope.{data_of, envelope}
use Rattle.frame.specs.Frame.{body_checks, frame_of, decoded, parsed_frame}
use Rattle.frame.specs.declared.envelope.Envelope.{Envelope}
use Rattle.frame.specs.declared.Frame.{Frame}
use Rattle.frame.specs.declared.Frame.TheVariants as Is
use Rattle.frame.proofs.Framed.{framed_opened}
use Rattle.frame.proofs.FrameChecked.{fails_framing, passes_framing, checked_framed}

-- The `Kind` of the data that a frame is read from.
abbrev pub family_of : Frame → Kind
family_of (Is.Report r) = Family.Report
family_of (Is.Ack a) = Family.Command

read_family : (k : Kind) (d : List ℕ) → family_of (frame_of 10 k d) ≡ k
read_family Family.Report d = refl
read_family Family.Command d = refl

-- If nothing is refused, no check failed, and the frame is the one that is read.
unrefused : (o : Option Check) {x y : Frame} → told_by (or_error o x) ≡ Ok y → (o ≡ None) × (x ≡ y)
unrefused (Some c) e = absurd (cc)
unrefused None e = (refl, cc)

pub record FrameRead (s : List ℕ) (k : Kind) (x : Frame) : Type 0 where
  pub whole : Bytes s → s ≡ framed k (data_of s)
  pub passes : Passes (body_checks k) (data_of s)
  pub value : frame_of 10 k (data_of s) ≡ x

module _ (s : List ℕ) (k : Kind) (x : Frame) (h : family_of x ≡ k) where
  pub read_sound : parsed_frame s ≡ Ok x → FrameRead s k x
  unfolding parsed_frame decoded
  read_sound e = go (envelope s) refl
    where
      go : (v : Result Envelope Check) → envelope s ≡ v → FrameRead s k x
      go (Err c) q =
          let failed = rw (fails_framing s c q) at e in
          absurd (cc)
      go (Ok v) q =
          let d = data_of s in
          let u = unrefused (first_failed (body_checks v.kind) d) (rw (passes_framing s v q) at e) in
          let m : v.kind ≡ k = cc (read_family v.kind d) in
          rw (← m)
          record { whole = framed_opened s v q; passes = passes_sound d (body_checks v.kind) u.0; value = u.1 }

pub read_complete : (k : Kind) (d : List ℕ) → length d < 65536 → Passes (body_checks k) d
    → parsed_frame (framed k d) ≡ Ok (frame_of 10 k d)
unfolding parsed_frame decoded
read_complete k d small p = rw (checked_framed k d small, passes_complete d (body_checks k) p)
