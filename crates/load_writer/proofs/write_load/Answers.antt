-- `load_writer::write_load` meets its contract: the seed is tested, and then the front of the buffer is filled, at most
-- 65,536 bytes of it. Assumes nothing.
use mathlib.Core.Path.{◌≡◌}
use mathlib.Core.List.{List}
use Prim.Native.Nat.{ℕ, ◌^◌, ◌<◌}
use lib.ListN.{length}
use borrow.Author.Rules.{rules}
use Rattle.load_writer.specs.Answer.{load_result, load_buffer, LoadCauses}
use Rattle.load_writer.specs.Claims.{Filled, StopsOnce, Prefix, LoadExamples}
use Rattle.load_writer.specs.Counts.{Counted}
use Rattle.std.specs.declared.result.Result.{Result}
use Rattle.load_writer.specs.declared.LoadError.{LoadError}
use Rattle.load_writer.proofs.Stopping.{load_stops_once, load_prefix}
use Rattle.load_writer.proofs.Answered.{zero_told, zero_left, zero_caused, zero_filled}
use Rattle.load_writer.proofs.Answered.{load_told, load_left, load_caused, load_filled}
use Rattle.load_writer.proofs.Counting.{counted}
use Rattle.load_writer.proofs.Printed.{examples}
use Rattle.load_writer.proofs.write_load.Goals as goal

-- What is shown: the answer, the buffer and the causes, beside the claims about the load, refused or not.
abbrev Written : ℕ → List ℕ → Result ℕ LoadError → List ℕ → Type 0
Written x out r buf =
    record {
      answered : r ≡ load_result x (length out);
      left : buf ≡ load_buffer x out;
      causes : LoadCauses x (length out) r;
      filled : Filled x out r buf;
      pieces : StopsOnce x (length out);
      prefix : Prefix x;
      counted : Counted x;
      examples : LoadExamples;
    }

shown : (x : ℕ) (out : List ℕ) (r : Result ℕ LoadError) (left : List ℕ) → x < 2 ^ 32 → r ≡ load_result x (length out)
    → left ≡ load_buffer x out → LoadCauses x (length out) r → Filled x out r left → Written x out r left
shown x out r left l told kept causes filled = record {
  answered = told;
  left = kept;
  causes = causes;
  filled = filled;
  pieces = load_stops_once x (length out);
  prefix = load_prefix x;
  counted = counted x l;
  examples = examples;
}

pub returns-then-seed-eq0 : goal.returns-then-seed-eq0
returns-then-seed-eq0 c =
    let zero = c.if-seed-eq0.true in
    shown _ _ _ _ (search rules) (zero_told zero _) (zero_left zero _) (zero_caused zero _) (zero_filled zero _)

pub returns : goal.returns
returns c =
    let seed = c.if-seed-eq0.false in
    let room = c.min-room.ensures in
    let count = c.fill.ensures.count in
    let front = c.fill.ensures.left in
    shown _ _ _ _ (search rules) (load_told seed _ room count) (load_left seed _ room front)
    (load_caused seed _ room count) (load_filled seed _ room count front)
