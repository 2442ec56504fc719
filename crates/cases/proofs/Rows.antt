-- The rows hold. What a row should say is computed from its bytes, calls, command or events, once for each table, and
-- compared with what it says; that the scanner's pieces are a division is a law of the crate `framing`.
use mathlib.Core.Path.{◌≡◌, refl, subst, ap}
use mathlib.Core.List.{List, ◌++◌, map}
use mathlib.Core.Bool.{Bool, true, not}
use Prim.Native.Nat.{ℕ}
use lib.ListN.{length}
use borrow.Author.Tests.{not-true}
use Rattle.std.specs.Prelude.{Ok, Err}
use Rattle.std.specs.declared.result.Result.{Result}
use Rattle.refusal.specs.declared.Error.TheVariants.{UnknownCommand}
use Rattle.wire.specs.Number.{number_at}
use Rattle.wire.specs.Counter.{bumped}
use Rattle.wire.specs.Equal.{same_bytes}
use Rattle.wire.specs.Family.{header_of, framed}
use Rattle.wire.specs.Prefix.{over, pasted, prefixed, padded}
use Rattle.wire.proofs.Bytes.{every_append}
use Rattle.target_state.specs.State.{state_of}
use Rattle.engineering.specs.Gates.{gates_fit}
use Rattle.engineering.specs.Block.{engineering_of}
use Rattle.report.specs.Report.{report_of}
use Rattle.ack.specs.Ack.{ack_of}
use Rattle.frame.specs.Frame.{decoded, checked_frame}
use Rattle.framing.specs.Piece.{Piece}
use Rattle.framing.proofs.Framing.{Divides}
use Rattle.framing.proofs.Scanner.{pieces}
use Rattle.framing.proofs.Scanned.{division_exists}
use Rattle.engine.specs.Calls.{Did, feeds}
use Rattle.stream.proofs.Scan.{reads, opens, wholes}
use Rattle.stream.proofs.Link.{link}
use Rattle.stream.specs.Deliver.{Answer, decodes}
use Rattle.scan.specs.Scan.{well_formed, or_reset, unfinished_by}
use Rattle.scan.specs.Start.{abandoned, start_of}
use Rattle.step.specs.Step.{step_of, stored}
use Rattle.step.specs.Slice.{run_of}
use Rattle.parser.specs.Feed.{fresh, feed_of, feed_slice_of, unfinished_of}
use Rattle.feed.specs.Moved.{buf_of, moved_of, slice_buf_of, slice_moved_of}
use Rattle.parser.specs.Claims.{did, left}
use Rattle.writer.specs.Written.{write_result, buffer_after, written}
use Rattle.command.specs.Command.{command_frame, encodable, unsupported}
use Rattle.cursor.specs.CommandFrame.{data_with}
use Rattle.command_reader.specs.Read.{is_command}
use Rattle.command_reader.specs.CommandFrame.{IsCommandFrame, number_in}
use Rattle.command_reader.specs.Candidate.{candidate, candidate_in, gate_for}
use Rattle.command_reader.proofs.CommandRead.{frame_command, read_unencodable}
use Rattle.engine.specs.Runs.{history, final}
use Rattle.session.specs.declared.Session.{Session}
use Rattle.session.specs.Session.{answer_of, send_of, buffer_of, receive_of, give_up_of}
use Rattle.session.specs.Machine.{Response, Conversation}
use Rattle.session.specs.Claims.{session_call}
use Rattle.session.proofs.Moved.{any_run}
use Rattle.load_writer.specs.Draw.{draw_of}
use Rattle.load_writer.specs.Load.{piece, laid_down}
use Rattle.load_writer.specs.Answer.{load_result, load_buffer}
use Rattle.load_writer.specs.declared.LoadError.{LoadError}
use Rattle.cases.specs.Row.{Numbers, added_up, counted_by, Stream, StreamHolds, Run, RunHolds}
use Rattle.cases.specs.Row.{CommandRow, encodes, parses, CommandHolds, Talk, TalkHolds, LoadRow, LoadHolds}
use Rattle.cases.specs.Row.{stream, run, command, talk, load, Holds}
use Rattle.cases.specs.Streams.{streams}
use Rattle.cases.specs.Runs.{runs}
use Rattle.cases.specs.Commands.{commands}
use Rattle.cases.specs.Talks.{talks}
use Rattle.cases.specs.Loads.{loads}
use Rattle.cases.specs.Claims.{AllHold}
use Rattle.cases.proofs.Agree.{rows_hold}

-- A stream's pieces and numbers, as computed and as the row says.
record Found : Type 0 where
  pub pieces : List Piece
  pub added : Numbers
  pub counted : Numbers

abbrev found : Stream → Found
found r = record {
  pieces = pieces (link 54) r.bytes;
  added = added_up r.pieces;
  counted = counted_by (left fresh (feeds r.bytes));
}

abbrev said : Stream → Found
said r = record { pieces = r.pieces; added = r.numbers; counted = r.numbers }

streams_computed : map found streams ≡ map said streams
unfolding reads opens wholes decodes checked_frame header_of same_bytes decoded well_formed or_reset abandoned start_of step_of
    stored buf_of moved_of feed_of unfinished_of unfinished_by bumped
streams_computed = refl

stream_holds : (r : Stream) → found r ≡ said r → StreamHolds r
stream_holds r e = record {
  divided = subst (λ (ps : List Piece). Divides (link 54) r.bytes ps) (ap (λ (x : Found). x.pieces) e)
      (division_exists (link 54) r.bytes);
  added = ap (λ (x : Found). x.added) e;
  counted = ap (λ (x : Found). x.counted) e;
}

-- A run's history and numbers, as computed and as the row says.
record Ran : Type 0 where
  pub history : List (Did Answer)
  pub numbers : Numbers

abbrev ran : Run → Ran
ran r = record { history = did r.start r.calls; numbers = counted_by (left r.start r.calls) }

abbrev told : Run → Ran
told r = record { history = r.history; numbers = r.numbers }

runs_computed : map ran runs ≡ map told runs
unfolding decoded report_of gates_fit engineering_of padded prefixed pasted over ack_of well_formed or_reset abandoned start_of
    step_of stored buf_of moved_of feed_of run_of same_bytes state_of slice_buf_of slice_moved_of feed_slice_of unfinished_of
    unfinished_by bumped
runs_computed = refl

run_holds : (r : Run) → ran r ≡ told r → RunHolds r
run_holds r e = record { done = ap (λ (x : Ran). x.history) e; counted = ap (λ (x : Ran). x.numbers) e }

-- A row of the encoder, with its answer and its buffer as computed, and as it says. A row of the reader holds if the
-- command that it gives encodes to its bytes; a row with 5, if these are the frame of a command that the module does
-- not take.
abbrev done : CommandRow → Bool × CommandRow
done (encodes c before answer after) = (
  true,
  encodes c before (write_result (unsupported c) (command_frame c) (length before))
      (buffer_after (unsupported c) (command_frame c) before),
)
done (parses s (Ok c)) = (encodable c, parses (command_frame c) (Ok c))
done (parses s (Err e)) =
    (not (encodable (candidate_in s)), parses (command_frame (candidate_in s)) (Err UnknownCommand))

abbrev stated : CommandRow → Bool × CommandRow
stated r = (true, r)

commands_computed : map done commands ≡ map stated commands
unfolding framed data_with write_result buffer_after written candidate_in candidate number_in number_at gate_for
commands_computed = refl

command_holds : (r : CommandRow) → done r ≡ stated r → CommandHolds r
command_holds (encodes c before answer after) e = let f = ap (λ x. x.1) e in (cc, cc)
command_holds (parses s (Ok c)) e = let f = ap (λ x. x.1) e in is_command c (ap (λ x. x.0) e, cc)
command_holds (parses s (Err r)) e =
    let f = ap (λ x. x.1) e in
    let h : r ≡ UnknownCommand = cc in
    let same : command_frame (candidate_in s) ≡ s = cc in
    let is_frame_lem = subst IsCommandFrame same (frame_command (candidate_in s)) in
    rw h (read_unencodable s is_frame_lem (not-true (encodable (candidate_in s)) (ap (λ x. x.0) e)))

-- A session's responses and where it ends, as computed and as the row says; the machine runs as the calls do.
record Spoken : Type 0 where
  pub responses : List Response
  pub left : Session

abbrev spoken : Talk → Spoken
spoken r = record {
  responses = history session_call r.start r.events;
  left = final session_call r.start r.events;
}

abbrev wanted : Talk → Spoken
wanted r = record { responses = r.responses; left = r.left }

talks_computed : map spoken talks ≡ map wanted talks
unfolding answer_of send_of buffer_of receive_of give_up_of framed data_with write_result buffer_after written
talks_computed = refl

talk_holds : (r : Talk) → spoken r ≡ wanted r → TalkHolds r
talk_holds r e = record {
  moved = subst (λ (x : Spoken). Conversation r.start r.events x.responses x.left) e
      (any_run r.start r.events).run;
  responded = ap (λ (x : Spoken). x.responses) e;
  stood = ap (λ (x : Spoken). x.left) e;
}

-- A load's answer and buffer, as computed and as the row says.
abbrev wrote : LoadRow → Result ℕ LoadError × List ℕ
wrote r = (load_result r.seed (length r.before), load_buffer r.seed r.before)

abbrev asked : LoadRow → Result ℕ LoadError × List ℕ
asked r = (r.answer, r.after)

loads_computed : map wrote loads ≡ map asked loads
unfolding load_result load_buffer written framed draw_of piece laid_down
loads_computed = refl

load_holds : (r : LoadRow) → wrote r ≡ asked r → LoadHolds r
load_holds r e = record { answered = ap (λ x. x.0) e; left = ap (λ x. x.1) e }

-- The whole table is these five, joined.
pub all_hold : AllHold
all_hold =
    every_append Holds (map stream streams)
    (map run runs ++ (map command commands ++ (map talk talks ++ map load loads)))
    (rows_hold found said stream Holds stream_holds streams streams_computed)
    (every_append Holds (map run runs) (map command commands ++ (map talk talks ++ map load loads))
    (rows_hold ran told run Holds run_holds runs runs_computed)
    (every_append Holds (map command commands) (map talk talks ++ map load loads)
    (rows_hold done stated command Holds command_holds commands commands_computed)
    (every_append Holds (map talk talks) (map load loads)
    (rows_hold spoken wanted talk Holds talk_holds talks talks_computed)
    (rows_hold wrote asked load Holds load_holds loads loads_computed))))
