-- Reports, written and read. Refusal 6 is for "a value that the reader can't give"; request 3: "writing again gives
-- equal bytes for states 0 to 6 with at most eight reserved bytes".
--   ReadAs f r     `Frame::parse` gives the report r for the string f
--   reserved_in f   the reserved bytes in the frame f, none without an engineering block
--   state_byte f    the state byte of the frame f
--   reports        the writer of reports and the reader of frames
use Rattle.std.specs.Prelude.{◌≡◌, List, ℕ, ◌≤◌, length, Ok}
use Rattle.writer.specs.RoundTrip.{Codec}
use Rattle.target_state.specs.State.{state_max}
use Rattle.engineering.specs.Block.{reserved}
use Rattle.report.specs.Layout.{state_in, block}
use Rattle.report.specs.declared.Report.{Report}
use Rattle.frame.specs.Envelope.{data_of}
use Rattle.frame.specs.Frame.{parsed_frame}
use Rattle.frame.specs.declared.Frame.TheVariants as Is
use Rattle.report_writer.specs.Data.{report_frame}
use Rattle.report_writer.specs.Writable.{unrepresentable}

abbrev pub ReadAs : List ℕ → Report → Type 0
ReadAs f r = parsed_frame f ≡ Ok (Is.Report r)

abbrev pub reserved_in : List ℕ → List ℕ
reserved_in f = reserved (block (data_of f))

abbrev pub state_byte : List ℕ → ℕ
state_byte f = state_in (data_of f)

abbrev pub reports : Codec Report
reports = record {
  refusal = unrepresentable;
  number = 6;
  frame = report_frame;
  Reads = ReadAs;
  -- "at most eight reserved bytes"
  Within = λ f. length (reserved_in f) ≤ 8;
  -- "for states 0 to 6"
  Kept = λ f. state_byte f ≤ state_max;
}
