-- A frame in its parts: "A frame is a kind beside a report and an ACK, the unused one all 0; with no frame both are."
--   frame_by k r a      the frame of the kind k with the report r and the acknowledgement a, if there is a kind
--   frame_in p          the frame that the parts p are
--   ReportPasses s p x   a report passes through the session s, whatever stands beside it: x is the outcome of the parts p
use Rattle.std.specs.Prelude.{◌≡◌, Some, None}
use Rattle.std.specs.declared.option.Option.{Option}
use Rattle.wire.specs.declared.Kind.{Kind}
use Rattle.wire.specs.declared.Kind.TheVariants as Family
use Rattle.report.specs.declared.Report.{Report}
use Rattle.ack.specs.declared.Ack.{Ack}
use Rattle.frame.specs.declared.Frame.{Frame}
use Rattle.frame.specs.declared.Frame.TheVariants as Is
use Rattle.session.specs.declared.Session.{Session}
use Rattle.session.specs.declared.ReceiveResult.TheVariants as Receive
use Rattle.session.specs.declared.Received.{Received}
use Rattle.session.specs.declared.parts.FrameParts.{FrameParts}

abbrev pub frame_by : Option Kind → Report → Ack → Option Frame
frame_by None r a = None
frame_by (Some Family.Report) r a = Some (Is.Report r)
frame_by (Some Family.Command) r a = Some (Is.Ack a)

abbrev pub frame_in : FrameParts → Option Frame
frame_in p = frame_by p.kind p.report p.ack

abbrev pub ReportPasses : Session → FrameParts → Received → Type 0
ReportPasses s p x = p.kind ≡ Some Family.Report → (x.session ≡ s) × (x.answer ≡ Receive.Passed)
