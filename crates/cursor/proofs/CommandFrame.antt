-- A command's frame is its parts, joined: in a buffer with room for the frame, all parts are written. `put_value`'s
-- proof cites this.
use mathlib.Core.Path.{◌≡◌, refl, ap, ◌∙◌}
use mathlib.Core.List.{List}
use Prim.Native.Nat.{ℕ, ◌≤◌, ◌<◌}
use native.Mathlib.Omega.{arith}
use lib.ListN.{length}
use Rattle.std.specs.Prelude.{None, Ok, Err}
use Rattle.std.specs.declared.result.Result.{Result}
use Rattle.wire.specs.Family.{framed}
use Rattle.refusal.specs.declared.Error.{Error}
use Rattle.refusal.specs.declared.Error.TheVariants.{BufferTooSmall}
use Rattle.writer.specs.Written.{written, write_result, buffer_after}
use Rattle.writer.proofs.Writers.{Wrote, wrote_short, wrote_whole}
use Rattle.cursor.specs.Parts.{told_all, moved_all, joined}
use Rattle.cursor.proofs.Parts.{parts_written}
use Rattle.cursor.specs.CommandFrame.{data_with, frame_with, size_with, parts}
use Rattle.cursor.specs.declared.Cursor.{Cursor}
use Rattle.cursor.specs.declared.command_frame.Value.{Value}
use Rattle.cursor.specs.declared.command_frame.Value.TheVariants as Of

-- 12, 14 or 30 bytes.
pub frame_size : (w : ℕ) (v : Value) → size_with v ≡ length (frame_with w v)
unfolding framed data_with
frame_size w Of.None = refl
frame_size w (Of.Number v) = refl
frame_size w (Of.Records a b c) = refl

-- The parts, joined, are the frame.
parts_joined : (w : ℕ) (v : Value) → joined (parts w v) ≡ frame_with w v
unfolding framed data_with
parts_joined w Of.None = refl
parts_joined w (Of.Number v) = refl
parts_joined w (Of.Records a b c) = refl

-- What `put_value` ensures.
abbrev pub Made : ℕ → Value → List ℕ → Result ℕ Error → List ℕ → Type 0
Made w v out r left =
    record {
      told : r ≡ write_result None (frame_with w v) (length out);
      left : left ≡ buffer_after None (frame_with w v) out;
    }

made_of : (w : ℕ) (v : Value) (out left : List ℕ) {r : Result ℕ Error} → Wrote None (frame_with w v) out r left
    → Made w v out r left
made_of w v out left h = record { told = h.0; left = h.1 }

module _ (w : ℕ) (v : Value) (out : List ℕ) (n : ℕ) (n-is : n ≡ size_with v) where
  size : n ≡ length (frame_with w v)
  size = n-is ∙ frame_size w v

  pub made_short : length out < n → Made w v out (Err (BufferTooSmall n)) out
  made_short h = made_of w v out out (wrote_short (frame_with w v) out n size h)

  -- In a buffer with room for the n bytes needed, putting the parts writes the whole frame.
  pub made_whole : (c : Cursor) (left : List ℕ) (r : Result ℕ Error) → n ≤ length out → c.out.now ≡ out → c.pos ≡ 0
      → r ≡ told_all c (parts w v) → left ≡ (moved_all c (parts w v)).out.now → Made w v out r left
  made_whole c left r fits e p answer after =
      let q = parts_joined w v in
      let l = ap length q in
      let all = parts_written out (parts w v) c e p (omega (arith, size, l)) in
      let told : r ≡ Ok n = answer ∙ all.0 ∙ ap Ok (omega (arith, size, l)) in
      let kept = after ∙ all.1 ∙ ap (written out) q in
      made_of w v out left (rw told (wrote_whole (frame_with w v) out n left size fits kept))
