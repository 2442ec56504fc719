-- A report comes back from its frame. One read with at most eight reserved bytes can be written, and gives the same
-- frame if the state byte is at most `state_max`.
use mathlib.Core.Path.{◌≡◌, refl, sym, ap, ◌∙◌}
use mathlib.Core.List.{List, [], ◌∷◌, ◌++◌}
use mathlib.Core.Bool.{Bool, true, false}
use Prim.Native.Nat.{ℕ, ◌-◌, ◌≤◌, ◌<◌}
use native.Mathlib.Omega.{arith}
use lib.ListN.{length, drop}
use Rattle.refusal.specs.Check.{Passes}
use Rattle.refusal.specs.declared.Error.TheVariants.{Unrepresentable}
use Rattle.wire.specs.Bytes.{Bytes}
use Rattle.wire.specs.Family.{framed}
use Rattle.wire.specs.declared.Kind.TheVariants as Family
use Rattle.wire.proofs.Bytes.{bytes_take, bytes_drop}
use Rattle.wire.proofs.Framed.{framed_within, framed_bytes}
use Rattle.target_state.specs.State.{state_max}
use Rattle.target_state.proofs.States.{byte_most}
use Rattle.engineering.specs.Block.{reserved, engineering_of, engineering_if}
use Rattle.report.specs.Basic.{basic_of}
use Rattle.report.specs.Layout.{data_type_in, body, block, is_engineering}
use Rattle.report.specs.LayoutCheck.{report_checks}
use Rattle.report.specs.Report.{report_by, report_of}
use Rattle.report.specs.declared.Report.{Report}
use Rattle.frame.specs.Envelope.{announced, data_of}
use Rattle.frame.specs.declared.Frame.TheVariants as Is
use Rattle.frame.proofs.FrameRead.{FrameRead, read_sound, read_complete}
use Rattle.writer.specs.RoundTrip.{Written}
use Rattle.writer.proofs.RoundTrip.{Agreed}
use Rattle.report_writer.specs.Data.{type_of, basic_bytes, engineering_block, block_of, front_of, report_data}
use Rattle.report_writer.specs.Data.{report_frame, trailer}
use Rattle.report_writer.specs.Writable.{counted, within, writable}
use Rattle.report_writer.specs.RoundTrip.{ReadAs, reports}
use Rattle.report_writer.proofs.Basics.{basic_back, basic_again}
use Rattle.report_writer.proofs.Blocks.{none_back, block_fits_lem, block_back, block_reserved}
use Rattle.report_writer.proofs.Blocks.{block_within, block_again}
use Rattle.report_writer.proofs.Counts.{Writable, flag_on, flag_off, writable_sound, within_complete}
use Rattle.report_writer.proofs.ReportData.{reserved_length, data_short, data_bytes}
use Rattle.report_writer.proofs.Shapes.{View, plain, full, Shape, passes_shape, shaped_body, shaped_passes}
use Rattle.report_writer.proofs.Typed.{TypedReport}

type_flag : (g : Bool) → is_engineering (type_of g) ≡ g
type_flag true = refl
type_flag false = refl

-- If a report can be written, its data pass the checks and are read as that report.
module _ (r : Report) (t : TypedReport r) where
  data_passes : Writable r → Passes report_checks (report_data r)
  unfolding report_data front_of
  data_passes (flag_on h w) =
      let fit = block_fits_lem r.engineering t.engineering w in
      rw h (shaped_passes 0x01 (basic_bytes r ++ engineering_block r.engineering) (omega arith) refl refl fit)
  data_passes (flag_off h w) = rw h (shaped_passes 0x02 (basic_bytes r ++ []) (omega arith) refl refl refl)

  data_body : body (report_data r) ≡ basic_bytes r ++ block_of r
  unfolding report_data front_of
  data_body = shaped_body (type_of r.has_engineering) 0xAA (basic_bytes r ++ block_of r)

  data_type_lem : data_type_in (report_data r) ≡ type_of r.has_engineering
  unfolding report_data front_of
  data_type_lem = refl

  block_read : Writable r → engineering_if (is_engineering (type_of r.has_engineering)) (block_of r) ≡ r.engineering
  block_read (flag_on h w) = rw h (block_back r.engineering t.engineering w)
  block_read (flag_off h w) = rw h (none_back r.engineering t.engineering w)

  data_back : Writable r → report_of (report_data r) ≡ r
  unfolding report_of
  data_back v =
      rw (data_body, data_type_lem) (basic_back r (block_of r) t (type_flag r.has_engineering) (block_read v))

  block_few : Writable r → length (reserved (block_of r)) ≤ 8
  block_few (flag_on h w) =
      let n = reserved_length r.engineering t.engineering w in
      rw (h, block_reserved r.engineering t.engineering w) (omega arith)
  block_few (flag_off h w) = rw h (omega arith)

  frame_written : Writable r → Written reports r (report_frame r)
  frame_written v =
      let small : length (report_data r) < 65536 = omega (arith, data_short r t v) in
      let d = framed_within Family.Report (report_data r) small in
      record {
        within = rw (d, data_body) (omega (arith, block_few v));
        kept = rw (d, data_body) (omega (arith, byte_most r.state));
        read = rw (data_back v) at (read_complete Family.Report (report_data r) small (data_passes v));
      }

-- A report that is read can be written, with the same type and the same block.
module _ (c : List ℕ) (t : ℕ) (b : List ℕ) (s : length (reserved b) ≤ 8) where
  abbrev read : Report
  read = report_by (basic_of c) t b

  view_writable : View t b → writable read ≡ true
  unfolding counted within engineering_of
  view_writable (plain e q) = rw e
  view_writable (full e h) = rw e (within_complete 1 9 8 (engineering_of b) (block_within b h s))

  view_type : View t b → type_of (is_engineering t) ≡ t
  view_type (plain e q) = rw e
  view_type (full e h) = rw e

  view_block : View t b → block_of read ≡ b
  unfolding engineering_of
  view_block (plain e q) = rw (e, q)
  view_block (full e h) = rw e (block_again b h s)

module _ (d : List ℕ) (h : Shape d) (s : length (reserved (block d)) ≤ 8) where
  data_writable : writable (report_of d) ≡ true
  unfolding report_of
  data_writable = view_writable (body d) (data_type_in d) (block d) s h.kind

  data_again : Bytes (body d) → (basic_of (body d)).state ≤ state_max → report_data (report_of d) ≡ d
  unfolding report_of report_data front_of
  data_again b k =
      let r = report_by (basic_of (body d)) (data_type_in d) (block d) in
      let type = type_of r.has_engineering in
      let nine = basic_again (body d) r.has_engineering r.engineering h.nine b k in
      ap (λ x. type ∷ 0xAA ∷ ((basic_bytes r ++ x) ++ trailer)) (view_block (body d) (data_type_in d) (block d) s h.kind)
      ∙ ap (λ x. type ∷ 0xAA ∷ (x ++ trailer)) nine
      ∙ ap (λ x. x ∷ 0xAA ∷ (body d ++ trailer)) (view_type (body d) (data_type_in d) (block d) s h.kind)
      ∙ h.whole

module _ (r : Report) (f : List ℕ) (q : ReadAs f r) (w : reports.Within f) where
  abbrev d : List ℕ
  d = data_of f

  held : FrameRead f Family.Report (Is.Report r)
  held = read_sound f Family.Report (Is.Report r) refl q

  report_is : report_of d ≡ r
  report_is = cc held.value

  read_writable : writable r ≡ true
  read_writable = rw (← report_is) (data_writable d (passes_shape d held.passes) (omega arith))

  frame_again : Bytes f → reports.Kept f → report_frame r ≡ f
  frame_again bytes k =
      let b = bytes_take (announced f) (drop 6 f) (bytes_drop 6 f bytes) in
      let c = bytes_take (length d - 4) (drop 2 d) (bytes_drop 2 d b) in
      let again = data_again d (passes_shape d held.passes) (omega arith) c (omega arith) in
      ap (framed Family.Report) (ap report_data (sym report_is) ∙ again) ∙ sym (held.whole bytes)

-- So the writer and the reader agree.
pub agreed : (r : Report) → TypedReport r → Agreed reports r Unrepresentable (writable r)
agreed r t = record {
  refused = refl;
  number = refl;
  apart = λ z. omega arith;
  some = λ z. omega arith;
  bytes = λ g. framed_bytes Family.Report (report_data r) (data_bytes r t (writable_sound r g));
  written = λ g. frame_written r t (writable_sound r g);
  found = λ s b w q. read_writable r s q w;
  again = λ s b w k q. frame_again r s q w b k;
}
