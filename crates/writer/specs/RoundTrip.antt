-- A writer and a reader that agree. Demand 2: "what the writers write is read as the same value"; document 01, point 7:
-- "Reading and writing again gives equal bytes".
--   Codec A          a writer of the values A beside a reader of strings
--   writes C v out   the writer's answer for v and the buffer out; leaves C v out is the buffer afterwards
--   Written C v s    the string s is within the writer's limits, is kept, and is read as v
--   RoundTrip C v    writer and reader agree on the value v
use Rattle.std.specs.Prelude.{◌≡◌, ◌↔◌, List, ℕ, ◌≤◌, length, take, Ok}
use Rattle.std.specs.declared.option.Option.{Option}
use Rattle.std.specs.declared.result.Result.{Result}
use Rattle.wire.specs.Bytes.{Bytes}
use Rattle.refusal.specs.Refusal.{refusal_of}
use Rattle.refusal.specs.declared.Error.{Error}
use Rattle.writer.specs.Written.{written, write_result, buffer_after}

pub record Codec (A : Type 0) : Type 1 where
  -- the refusal of a value that cannot be written, and its number; the frame of a value
  pub refusal : A → Option Error
  pub number : ℕ
  pub frame : A → List ℕ
  -- the string is read as the value
  pub Reads : List ℕ → A → Type 0
  -- the strings within the writer's limits; and those of them that reading and writing again keeps
  pub Within : List ℕ → Type 0
  pub Kept : List ℕ → Type 0

abbrev pub writes : {A : Type 0} → Codec A → A → List ℕ → Result ℕ Error
writes C v out = write_result (C.refusal v) (C.frame v) (length out)

abbrev pub leaves : {A : Type 0} → Codec A → A → List ℕ → List ℕ
leaves C v out = buffer_after (C.refusal v) (C.frame v) out

pub record Written {A : Type 0} (C : Codec A) (v : A) (s : List ℕ) : Type 0 where
  pub within : C.Within s
  pub kept : C.Kept s
  pub read : C.Reads s v

pub record RoundTrip {A : Type 0} (C : Codec A) (v : A) : Type 0 where
  -- what is written, into any buffer, is read as the value, and is a string that is kept
  pub back : (out : List ℕ) (n : ℕ) → writes C v out ≡ Ok n → Written C v (take n (leaves C v out))
  -- the value's refusal is given exactly if no string within the writer's limits is read as the value
  pub exact : (out : List ℕ) → (refusal_of (writes C v out) ≡ C.number)
      ↔ ((s : List ℕ) → Bytes s → C.Within s → C.Reads s v → ⊥)
  -- a kept string that is read as the value is written again, byte for byte, into any buffer that is long enough
  pub again : (s : List ℕ) → Bytes s → C.Within s → C.Kept s → C.Reads s v
      → (out : List ℕ) → length s ≤ length out
      → (writes C v out ≡ Ok (length s)) × (leaves C v out ≡ written out s)
