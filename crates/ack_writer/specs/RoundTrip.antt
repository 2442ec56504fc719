-- Acknowledgements, written and read. Refusal 6 is for "a value that the reader can't give". "Reading and writing again
-- gives equal bytes for every acknowledgement of at most 54 data bytes".
--   AckValue         what the writer is given: word, `ok`, status, payload; ack_value w ok s p is the value of these
--   ack_of_value v     the acknowledgement that the frame of the value v is read as
--   ReadAs f v       the string f is read as the value v: the reader gives its word, `ok` and status, and a span at
--                    which f has its payload
--   ack_limit         the most data bytes
--   acks             the writer of acknowledgements and the reader of frames
use Rattle.std.specs.Prelude.{◌≡◌, List, Bool, ℕ, ◌≤◌, length, Ok}
use Rattle.writer.specs.RoundTrip.{Codec}
use Rattle.ack.specs.Span.{payload_in}
use Rattle.ack.specs.declared.Ack.{Ack}
use Rattle.frame.specs.Envelope.{data_of}
use Rattle.frame.specs.Frame.{parsed_frame}
use Rattle.frame.specs.declared.Frame.TheVariants as Is
use Rattle.ack_writer.specs.Frame.{ack_frame, unrepresentable}

pub record AckValue : Type 0 where
  pub word : ℕ
  pub ok : Bool
  pub status : ℕ
  pub payload : List ℕ

abbrev pub ack_value : ℕ → Bool → ℕ → List ℕ → AckValue
ack_value w ok s p = record { word = w; ok = ok; status = s; payload = p }

-- "the payload's start and length within .. the slice given to `Frame::parse`"
abbrev pub ack_of_value : AckValue → Ack
ack_of_value v = record {
  word = v.word;
  ok = v.ok;
  status = v.status;
  payload = record { start = 10; len = length v.payload };
}

pub record ReadAs (f : List ℕ) (v : AckValue) : Type 0 where
  pub given : parsed_frame f ≡ Ok (Is.Ack (ack_of_value v))
  pub carried : payload_in f (ack_of_value v).payload ≡ v.payload

-- "at most 54 data bytes"
abbrev pub ack_limit : ℕ
ack_limit = 54

abbrev pub acks : Codec AckValue
acks = record {
  refusal = λ v. unrepresentable v.word v.ok v.status v.payload;
  number = 6;
  frame = λ v. ack_frame v.word v.status v.payload;
  Reads = ReadAs;
  Within = λ f. length (data_of f) ≤ ack_limit;
  -- "every acknowledgement of at most 54 data bytes"
  Kept = λ f. Unit {0};
}
