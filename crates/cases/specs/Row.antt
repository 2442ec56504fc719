-- What a row of a table says, and when it holds.
--   Numbers          the four counters, and the length of the unfinished end
--   added_up ps       the numbers that the pieces ps add up to
--   counted_by p      the numbers of the parser p
--   Stream           bytes, the pieces that they divide into, and their numbers
--   StreamHolds r    the row holds by the definition of a division, and by the parser
--   Run              calls on a parser, what they do, and the numbers afterwards
--   RunHolds r       the row holds by the parser
--   CommandRow       a command written, its answer and the buffer before and after; or bytes read, and the answer
--   CommandHolds r   the row holds by what the contracts of `Command::encode` and `read_command` cite
--   Talk             events on a session, the responses, and the session afterwards
--   TalkHolds r      the row holds by request 2's machine, and by what the contracts of a session cite
--   LoadRow          a load written: its seed, the answer, and the buffer before and after
--   LoadHolds r      the row holds by what the contract of `write_load` cites
--   Row              a row of any of these kinds; Holds r says when it holds
use Rattle.std.specs.Prelude.{◌≡◌, List, ℕ, length}
use Rattle.std.specs.declared.result.Result.{Result}
use Rattle.refusal.specs.declared.Error.{Error}
use Rattle.stream.specs.Length.{link_limit}
use Rattle.framing.specs.Piece.{Piece}
use Rattle.framing.specs.Division.{Division}
use Rattle.framing.specs.Tally.{sum, waiting}
use Rattle.engine.specs.Calls.{Call, Did, feeds}
use Rattle.stream.specs.Open.{Open, Whole}
use Rattle.stream.specs.Deliver.{Answer, frames, resyncs, dropped, malformed, adds}
use Rattle.parser.specs.Feed.{fresh, unfinished_of}
use Rattle.parser.specs.Claims.{did, left}
use Rattle.parser.specs.declared.Parser.{Parser}
use Rattle.writer.specs.Written.{write_result, buffer_after}
use Rattle.command.specs.Command.{command_frame, unsupported}
use Rattle.command_reader.specs.Read.{ReadTo}
use Rattle.command.specs.declared.Command.{Command}
use Rattle.engine.specs.Runs.{history, final}
use Rattle.session.specs.declared.Session.{Session}
use Rattle.session.specs.Machine.{Event, Response, Conversation}
use Rattle.session.specs.Claims.{session_call}
use Rattle.load_writer.specs.Answer.{load_result, load_buffer}
use Rattle.load_writer.specs.declared.LoadError.{LoadError}

pub record Numbers : Type 0 where
  pub frames : ℕ
  pub resyncs : ℕ
  pub dropped : ℕ
  pub malformed : ℕ
  pub unfinished : ℕ

abbrev pub added_up : List Piece → Numbers
added_up ps = record {
  frames = sum (adds frames) ps;
  resyncs = sum (adds resyncs) ps;
  dropped = sum (adds dropped) ps;
  malformed = sum (adds malformed) ps;
  unfinished = sum waiting ps;
}

abbrev pub counted_by : Parser → Numbers
counted_by p = record {
  frames = p.stats.frames;
  resyncs = p.stats.resyncs;
  dropped = p.stats.dropped;
  malformed = p.stats.malformed;
  unfinished = unfinished_of link_limit p;
}

pub record Stream : Type 0 where
  pub bytes : List ℕ
  pub pieces : List Piece
  pub numbers : Numbers

pub record StreamHolds (r : Stream) : Type 0 where
  -- the bytes divide into the pieces
  pub divided : Division (Open link_limit) (Whole link_limit) r.bytes r.pieces
  -- the pieces add up to the numbers
  pub added : added_up r.pieces ≡ r.numbers
  -- a fresh parser that is fed the bytes one by one has the numbers
  pub counted : counted_by (left fresh (feeds r.bytes)) ≡ r.numbers

pub record Run : Type 0 where
  pub start : Parser
  pub calls : List Call
  pub history : List (Did Answer)
  pub numbers : Numbers

pub record RunHolds (r : Run) : Type 0 where
  -- the calls do what the row says
  pub done : did r.start r.calls ≡ r.history
  -- the parser that they leave has the numbers
  pub counted : counted_by (left r.start r.calls) ≡ r.numbers

pub data CommandRow : Type 0 where
  encodes : (c : Command) (before : List ℕ) (answer : Result ℕ Error) (after : List ℕ) → CommandRow
  parses : (s : List ℕ) (answer : Result Command Error) → CommandRow

abbrev pub CommandHolds : CommandRow → Type 0
CommandHolds (encodes c before answer after) = (write_result (unsupported c) (command_frame c) (length before) ≡ answer)
    × (buffer_after (unsupported c) (command_frame c) before ≡ after)
CommandHolds (parses s answer) = ReadTo s answer

pub record Talk : Type 0 where
  pub start : Session
  pub events : List Event
  pub responses : List Response
  pub left : Session

pub record TalkHolds (r : Talk) : Type 0 where
  -- the machine's rules lead from the one session to the other, with these responses
  pub moved : Conversation r.start r.events r.responses r.left
  -- the calls respond so, and leave that session
  pub responded : history session_call r.start r.events ≡ r.responses
  pub stood : final session_call r.start r.events ≡ r.left

pub record LoadRow : Type 0 where
  pub seed : ℕ
  pub before : List ℕ
  pub answer : Result ℕ LoadError
  pub after : List ℕ

pub record LoadHolds (r : LoadRow) : Type 0 where
  pub answered : load_result r.seed (length r.before) ≡ r.answer
  pub left : load_buffer r.seed r.before ≡ r.after

pub data Row : Type 0 where
  stream : (r : Stream) → Row
  run : (r : Run) → Row
  command : (r : CommandRow) → Row
  talk : (r : Talk) → Row
  load : (r : LoadRow) → Row

abbrev pub Holds : Row → Type 0
Holds (stream r) = StreamHolds r
Holds (run r) = RunHolds r
Holds (command r) = CommandHolds r
Holds (talk r) = TalkHolds r
Holds (load r) = LoadHolds r
