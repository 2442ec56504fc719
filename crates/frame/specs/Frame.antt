-- Whole frames: the checks F1 to F4. "Then the body's checks."
--   body_checks k      the checks of the data of a frame of the family k
--   on_data cs         the checks cs of data, made on the whole frame
--   then_body m        the checks of the data, by the family m
--   checks_for s       every check of s, in order: F1 to F4, then those of its data
--   starting_at i a    the acknowledgement a, its payload starting at place i
--   frame_of i k d     the frame that data d of the family k are read as; a payload starts at place i
--   decoded i k d      the answer for the data d alone: the first check that fails, or the frame
--   checked_as m s     the answer for the bytes s that begin with the header of the family m, if m is one
--   checked_frame s    the answer for the bytes s: the first check that fails, or the frame
--   parsed_frame s     the same with the refusal in place of the check
--   Fields             the fields of an answer: the family of its frame, if it has one, a report, an acknowledgement
--   no_fields          every field 0
--   fields_of x        the fields of the frame x
--   returned_frame r   the number and the fields that the answer r returns
use Rattle.std.specs.Prelude.{List, [], ◌++◌, map, ℕ, Some, None, Err}
use Rattle.std.specs.declared.option.Option.{Option}
use Rattle.std.specs.Result.{result_map_both}
use Rattle.std.specs.declared.result.Result.{Result}
use Rattle.frame.specs.Envelope.{family, data_of, frame_checks}
use Rattle.refusal.specs.Refusal.{Returned, returned}
use Rattle.refusal.specs.Check.{Checks, checked_by, told_by}
use Rattle.wire.specs.declared.Kind.{Kind}
use Rattle.wire.specs.declared.Kind.TheVariants as Family
use Rattle.refusal.specs.declared.Error.{Error}
use Rattle.refusal.specs.declared.Check.{Check}
use Rattle.refusal.specs.declared.Check.TheVariants.{F1}
use Rattle.report.specs.LayoutCheck.{report_checks}
use Rattle.report.specs.Report.{report_of, no_report}
use Rattle.report.specs.declared.Report.{Report}
use Rattle.ack.specs.Ack.{ack_checks, ack_of}
pub use Rattle.ack.specs.Ack.{no_ack}
use Rattle.ack.specs.declared.Ack.{Ack}
use Rattle.frame.specs.declared.Frame.{Frame}
use Rattle.frame.specs.declared.Frame.TheVariants as Is

abbrev pub body_checks : Kind → Checks
body_checks Family.Report = report_checks
body_checks Family.Command = ack_checks

abbrev pub on_data : Checks → Checks
on_data cs = map (λ x. (x.0, λ s. x.1 (data_of s))) cs

abbrev pub then_body : Option Kind → Checks
then_body (Some k) = on_data (body_checks k)
then_body None = []

abbrev pub checks_for : List ℕ → Checks
checks_for s = frame_checks ++ then_body (family s)

-- "the payload's start and length within the parser's 64 bytes, or within the slice given to `Frame::parse`"
abbrev pub starting_at : ℕ → Ack → Ack
starting_at i a = record a { payload = record { start = i; len = a.payload.len } }

abbrev pub frame_of : ℕ → Kind → List ℕ → Frame
frame_of i Family.Report d = Is.Report (report_of d)
frame_of i Family.Command d = Is.Ack (starting_at i (ack_of d))

unfoldable pub decoded : ℕ → Kind → List ℕ → Result Frame Check
decoded i k d = checked_by (body_checks k) d (frame_of i k d)

-- in a whole frame a payload starts at place 10; bytes that begin with no header fail F1
abbrev pub checked_as : Option Kind → List ℕ → Result Frame Check
checked_as (Some k) s = checked_by (checks_for s) s (frame_of 10 k (data_of s))
checked_as None s = Err F1

unfoldable pub checked_frame : List ℕ → Result Frame Check
checked_frame s = checked_as (family s) s

unfoldable pub parsed_frame : List ℕ → Result Frame Error
parsed_frame s = told_by (checked_frame s)

-- "the unused one all 0; with no frame both are"
pub record Fields : Type 0 where
  pub kind : Option Kind
  pub report : Report
  pub ack : Ack

abbrev pub no_fields : Fields
no_fields = record { kind = None; report = no_report; ack = no_ack }

abbrev pub fields_of : Frame → Fields
fields_of (Is.Report r) = record no_fields { kind = Some Family.Report; report = r }
fields_of (Is.Ack a) = record no_fields { kind = Some Family.Command; ack = a }

abbrev pub returned_frame : Result Frame Error → Returned Fields
returned_frame r = returned no_fields (result_map_both fields_of (λ e. e) r)
