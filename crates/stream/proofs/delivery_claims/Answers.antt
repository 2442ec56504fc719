-- `stream::delivery_claims`: a whole frame is its data, framed, and Delivered proves the claims of framed data.
-- Assumes nothing.
use mathlib.Core.Path.{◌≡◌, refl, sym, ap, ◌∙◌}
use mathlib.Core.Logic.{◌↔◌}
use mathlib.Core.List.{List}
use mathlib.Core.Bool.{true}
use Prim.Native.Nat.{ℕ}
use Rattle.std.specs.Prelude.{Some, None, Ok, Err, is_ok, option_map, IsOk}
use Rattle.std.specs.Result.{result_ok}
use Rattle.std.specs.declared.option.Option.{Option}
use Rattle.std.specs.declared.result.Result.{Result}
use Rattle.refusal.specs.Refusal.{or_error}
use Rattle.refusal.specs.Check.{Checks, first_failed, Passes, checked_by, told_by}
use Rattle.refusal.proofs.Checks.{passes_sound, passes_complete}
use Rattle.refusal.specs.declared.Check.{Check}
use Rattle.frame.specs.Frame.{body_checks, frame_of, decoded, checked_frame, parsed_frame}
use Rattle.frame.specs.declared.Frame.{Frame}
use Rattle.stream.specs.Deliver.{counted_in, decodes, delivered}
use Rattle.stream.specs.Claims.{DecodesWhole, DeliversWhole, DeliversParsed}
use Rattle.stream.proofs.Begins.{whole_spelled, whole_short}
use Rattle.stream.proofs.Delivered.{decodes_framed, delivered_framed}
use Rattle.stream.proofs.delivery_claims.Goals as goal

none_failed : (o : Option Check) (x : Frame) → is_ok (or_error o x) ≡ true → o ≡ None
none_failed (Some c) x e = absurd (cc)
none_failed None x e = refl

-- No check fails exactly if every check passes.
accepted_passes : (cs : Checks) (d : List ℕ) (x : Frame) → (is_ok (checked_by cs d x) ≡ true) ↔ Passes cs d
accepted_passes cs d x = (
  (λ e. passes_sound d cs (none_failed (first_failed cs d) x e)),
  (λ p. rw (passes_complete d cs p)),
)

decodes_whole : DecodesWhole
unfolding DecodesWhole decoded
decodes_whole limit s w bytes =
    let short = whole_short limit s bytes w in
    let e = ap decodes (whole_spelled limit s bytes w) ∙ decodes_framed w.kind w.held short in
    let p = accepted_passes (body_checks w.kind) w.held (frame_of 4 w.kind w.held) in
    ((λ d. p.0 (sym e ∙ d)), (λ h. e ∙ p.1 h))

delivers_whole : DeliversWhole
unfolding DeliversWhole
delivers_whole limit s w r bytes = ap delivered (whole_spelled limit s bytes w)
    ∙ delivered_framed w.held r w.kind (whole_short limit s bytes w)

-- `Frame::parse` gives a frame exactly if no check fails, and it is the same frame.
told_alike : (r : Result Frame Check)
    → ((is_ok r ≡ true) ↔ IsOk (told_by r))
    × (option_map (counted_in 4) (result_ok r) ≡ option_map (counted_in 4) (result_ok (told_by r)))
told_alike (Ok x) = (((λ e. e), (λ e. e)), refl)
told_alike (Err c) = (((λ e. e), (λ e. e)), refl)

delivers_parsed : DeliversParsed
unfolding DeliversParsed decodes delivered parsed_frame
delivers_parsed f = told_alike (checked_frame f)

pub returns : goal.returns
returns c = record { decodes = decodes_whole; delivers = delivers_whole; parsed = delivers_parsed }
