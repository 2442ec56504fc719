-- What a whole frame delivers: what its data are decoded as. A payload's start is counted in a buffer that begins with
-- the data.
use mathlib.Core.Path.{◌≡◌, refl, sym, ap, ◌∙◌}
use mathlib.Core.List.{List, [], ◌∷◌, ◌++◌}
use Prim.Native.Nat.{ℕ, zero, suc, ◌-◌, ◌<◌}
use native.Mathlib.Omega.{arith}
use lib.ListN.{length, take, drop}
use lib.Seq.{take_at, drop-drop}
use Rattle.std.specs.Prelude.{Some, None, is_ok, option_map}
use Rattle.std.specs.declared.option.Option.{Option}
use Rattle.std.specs.Result.{result_ok}
use Rattle.refusal.specs.Refusal.{or_error}
use Rattle.refusal.specs.Check.{first_failed}
use Rattle.refusal.specs.declared.Check.{Check}
use Rattle.wire.specs.Family.{tail, framed}
use Rattle.wire.specs.declared.Kind.{Kind}
use Rattle.wire.specs.declared.Kind.TheVariants.{Report, Command}
use Rattle.ack.specs.Ack.{ack_of}
use Rattle.frame.specs.Frame.{body_checks, frame_of, decoded}
use Rattle.wire.proofs.Framed.{framed_data}
use Rattle.frame.proofs.FrameChecked.{checked_framed}
use Rattle.frame.specs.declared.Frame.{Frame}
use Rattle.stream.specs.Deliver.{Answer, decodes, counted_in, payload_of, delivered}

-- The part of the string d after its first n bytes, whatever follows d.
left_of : (n : ℕ) (d t : List ℕ) → take (length d - n) (drop n (d ++ t)) ≡ drop n d
left_of zero d t = let z : length d - 0 ≡ length d = omega arith in rw z (take_at d t (length d) refl)
left_of (suc n) [] t = let z : 0 - suc n ≡ 0 = omega arith in rw z
left_of (suc n) (b ∷ d) t = let z : suc (length d) - suc n ≡ length d - n = omega arith in rw z (left_of n d t)

-- The answer that gives the frame in o, its payload read in the bytes s.
abbrev pub answer_in : Option Frame → List ℕ → Answer
answer_in o s = (o, payload_of o s)

module _ (k : Kind) (d : List ℕ) (small : length d < 65536) where
  decodes_as : (o : Option Check) → is_ok (or_error o (frame_of 10 k d)) ≡ is_ok (or_error o (frame_of 4 k d))
  decodes_as (Some c) = refl
  decodes_as None = refl

  pub decodes_framed : decodes (framed k d) ≡ is_ok (decoded 4 k d)
  unfolding decodes decoded
  decodes_framed = rw (checked_framed k d small) (decodes_as (first_failed (body_checks k) d))

module _ (d r : List ℕ) where
  -- The payload is the same in the frame's own bytes and in the buffer.
  same_payload : (k : Kind)
      → payload_of (Some (frame_of 10 k d)) (framed k d) ≡ payload_of (Some (frame_of 4 k d)) (d ++ r)
  unfolding ack_of
  same_payload Report = refl
  same_payload Command =
      let body = sym (drop-drop 4 6 (framed Command d)) ∙ ap (λ s. drop 4 s) (framed_data Command d) in
      ap (λ s. take (length d - 4) s) body ∙ left_of 4 d (tail Command) ∙ sym (left_of 4 d r)

  same_frame : (k : Kind) → counted_in 4 (frame_of 10 k d) ≡ frame_of 4 k d
  same_frame Report = refl
  same_frame Command = refl

  counted_as : (k : Kind) (o : Option Check)
      → let x = result_ok (or_error o (frame_of 10 k d)) in
      ◌≡◌ {A = Answer} (option_map (counted_in 4) x, payload_of x (framed k d))
      (answer_in (result_ok (or_error o (frame_of 4 k d))) (d ++ r))
  counted_as k (Some c) = refl
  counted_as k None = rw (same_payload k, same_frame k)

  pub delivered_framed : (k : Kind) → length d < 65536
      → delivered (framed k d) ≡ answer_in (result_ok (decoded 4 k d)) (d ++ r)
  unfolding delivered decoded
  delivered_framed k small = rw (checked_framed k d small) (counted_as k (first_failed (body_checks k) d))
