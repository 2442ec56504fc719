-- A value comes back from its frame, and a frame of at most 54 data bytes from its value.
use mathlib.Core.Path.{◌≡◌, refl, sym, ap, ◌∙◌}
use mathlib.Core.List.{List}
use mathlib.Core.Bool.{Bool, true, false, ◌&&◌, beq, and-eq-true_iff}
use Prim.Native.Nat.{ℕ, ◌+◌, ◌-◌, ◌/◌, ◌%◌, ◌≤◌, ◌<◌}
use native.Mathlib.Omega.{arith}
use lib.Dec.{eqb, leb}
use lib.ListN.{length, drop, length-drop}
use lib.Seq.{take_at, drop-drop, drop-append-le}
use borrow.Author.Tests.{leb-true, le-leb, eqb-true, eq-eqb}
use Rattle.wire.specs.Bytes.{Bytes}
use Rattle.wire.specs.Family.{tail, framed}
use Rattle.wire.specs.declared.Kind.TheVariants.{Command}
use Rattle.wire.proofs.Bytes.{bytes_take, bytes_drop}
use Rattle.wire.proofs.Framed.{framed_data, framed_length, framed_within, framed_bytes}
use Rattle.refusal.specs.Check.{Passes}
use Rattle.refusal.specs.declared.Error.TheVariants.{Unrepresentable}
use Rattle.ack.specs.Ack.{word_in, status_in, ack_checks, ack_of}
use Rattle.ack.specs.Span.{payload_in}
use Rattle.ack.specs.declared.Ack.{Ack}
use Rattle.frame.specs.Envelope.{announced, data_of}
use Rattle.frame.specs.Frame.{starting_at}
use Rattle.frame.specs.declared.Frame.TheVariants as Is
use Rattle.frame.proofs.FrameRead.{read_sound, read_complete}
use Rattle.writer.proofs.RoundTrip.{Agreed}
use Rattle.ack_writer.specs.Frame.{ack_data, ack_frame, writable}
use Rattle.ack_writer.specs.RoundTrip.{ack_value, ack_of_value, ReadAs, ack_limit, acks}
use Rattle.ack_writer.proofs.AckData.{data_length, data_bytes, data_word, data_status, data_payload}
use Rattle.ack_writer.proofs.AckData.{data_again}

same_bool : (a b : Bool) → beq a b ≡ true → b ≡ a
same_bool true true e = refl
same_bool true false e = e
same_bool false true e = sym e
same_bool false false e = refl

bool_same : (b : Bool) → beq b b ≡ true
bool_same true = refl
bool_same false = refl

-- What the three tests of a value mean.
pub record Fit (w : ℕ) (ok : Bool) (s : ℕ) (p : List ℕ) : Type 0 where
  pub clear : w / 0x0100 % 2 ≡ 0
  pub agreed : eqb s 0 ≡ ok
  pub short : length p ≤ 50

module _ (w : ℕ) (ok : Bool) (s : ℕ) (p : List ℕ) where
  pub writable_sound : writable w ok s p ≡ true → Fit w ok s p
  unfolding writable
  writable_sound e =
      let h = (and-eq-true_iff (eqb (w / 0x0100 % 2) 0) (beq ok (eqb s 0) && leb (length p) 50)).0 e in
      let k = (and-eq-true_iff (beq ok (eqb s 0)) (leb (length p) 50)).0 h.1 in
      record {
        clear = eqb-true (w / 0x0100 % 2) 0 h.0;
        agreed = same_bool ok (eqb s 0) k.0;
        short = leb-true (length p) 50 k.1;
      }

  writable_complete : Fit w ok s p → writable w ok s p ≡ true
  unfolding writable
  writable_complete h =
      rw (eq-eqb (w / 0x0100 % 2) 0 h.clear, h.agreed, bool_same ok) (le-leb (length p) 50 h.short)

-- The payload follows the word and the status.
payload_after : (d : List ℕ) → 4 ≤ length d
    → payload_in (framed Command d) (record { start = 10; len = length d - 4 }) ≡ drop 4 d
unfolding payload_in
payload_after d four =
    let n = framed_length Command d in
    let inside = le-leb (10 + (length d - 4)) (length (framed Command d)) (omega arith) in
    rw (inside, ← drop-drop 4 6 (framed Command d), framed_data Command d, drop-append-le 4 d (tail Command) four)
    (take_at (drop 4 d) (tail Command) (length d - 4) (length-drop 4 d))

-- The data of a value that fits are read as this value.
reads_written : (w : ℕ) (ok : Bool) (s : ℕ) (p : List ℕ) → w < 65536 → s < 65536 → writable w ok s p ≡ true
    → ReadAs (ack_frame w s p) (ack_value w ok s p)
unfolding ack_of
reads_written w ok s p wide wide' e =
    let h = writable_sound w ok s p e in
    let d = ack_data w s p in
    let l = data_length w s p in
    let word = data_word w s p (omega arith) in
    let back : word_in d - 0x0100 ≡ w = omega arith in
    let len : length d - 4 ≡ length p = omega arith in
    let bit = eq-eqb (word_in d / 0x0100 % 2) 1 (rw word (omega arith)) in
    record {
      given = read_complete Command d (omega arith) (le-leb 4 (length d) (omega arith), (bit, tt))
          ∙ rw (back, data_status w s p wide', h.agreed, len);
      carried = rw len at (payload_after d (omega arith)) ∙ data_payload w s p;
    }

-- What is read from the frame f of at most `ack_limit` data bytes can be written, and gives f.
data_frame : (f d : List ℕ) (a : Ack) → f ≡ framed Command d → starting_at 10 (ack_of d) ≡ a → Passes ack_checks d
    → Bytes d → length d ≤ ack_limit
    → (writable a.word a.ok a.status (payload_in f a.payload) ≡ true)
    × (ack_frame a.word a.status (payload_in f a.payload) ≡ f)
unfolding ack_of
data_frame f d a whole value p b short =
    let four = leb-true 4 (length d) p.0 in
    let bit = eqb-true (word_in d / 0x0100 % 2) 1 p.1.0 in
    let fit : Fit (word_in d - 0x0100) (eqb (status_in d) 0) (status_in d) (drop 4 d) =
    record { clear = omega arith; agreed = refl; short = simp length-drop (omega arith) } in
    rw (← value, whole, payload_after d four)
    (writable_complete _ _ _ _ fit, ap (framed Command) (data_again d b four bit))

module _ (w : ℕ) (ok : Bool) (s : ℕ) (p : List ℕ) where
  read_again : (f : List ℕ) → Bytes f → length (data_of f) ≤ ack_limit → ReadAs f (ack_value w ok s p)
      → (writable w ok s p ≡ true) × (ack_frame w s p ≡ f)
  read_again f b short r =
      let a = ack_of_value (ack_value w ok s p) in
      let h = read_sound f Command (Is.Ack a) refl r.given in
      let d = bytes_take (announced f) (drop 6 f) (bytes_drop 6 f b) in
      let value : starting_at 10 (ack_of (data_of f)) ≡ a = cc h.value in
      rw r.carried at (data_frame f (data_of f) a (h.whole b) value h.passes d short)

  -- The data of a value that can be written are within the limit.
  data_within : writable w ok s p ≡ true → length (data_of (ack_frame w s p)) ≤ ack_limit
  data_within g =
      let l = (writable_sound w ok s p g).short in
      let n = data_length w s p in
      rw (framed_within Command (ack_data w s p) (omega arith)) (omega arith)

  -- So the writer and the reader agree.
  pub agreed : w < 65536 → s < 65536 → Bytes p
      → Agreed acks (ack_value w ok s p) Unrepresentable (writable w ok s p)
  agreed wide wide' b = record {
    refused = refl;
    number = refl;
    apart = λ z. omega arith;
    some = λ z. omega arith;
    bytes = λ g. framed_bytes Command (ack_data w s p) (data_bytes w s p b);
    written = λ g. record { within = data_within g; kept = tt; read = reads_written w ok s p wide wide' g };
    found = λ f h l r. (read_again f h l r).0;
    again = λ f h l k r. (read_again f h l r).1;
  }
