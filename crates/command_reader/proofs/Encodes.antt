-- Whether a command encodes to the bytes, and what the encoder leaves in its buffer.
use mathlib.Core.Path.{◌≡◌, refl, sym}
use mathlib.Core.List.{List}
use mathlib.Core.Bool.{Bool, true, false, and-eq-true_iff}
use Prim.Native.Nat.{ℕ, ◌≤◌}
use native.Mathlib.Omega.{arith}
use lib.ListN.{length, take}
use Rattle.wire.specs.Equal.{same_bytes}
use Rattle.wire.proofs.Equality.{same_sound, same_complete}
use Rattle.refusal.specs.declared.Error.{Error}
use Rattle.refusal.specs.declared.Error.TheVariants.{Unsupported, UnknownCommand}
use Rattle.writer.specs.Written.{written}
use Rattle.std.specs.Prelude.{Ok, Err}
use Rattle.std.specs.declared.result.Result.{Result}
use Rattle.writer.proofs.Chain.{written_front}
use Rattle.writer.proofs.Writers.{Wrote, wrote_whole, wrote_all, none_good}
use Rattle.command.specs.Command.{command_frame, encodable, unsupported}
use Rattle.command_reader.specs.Candidate.{encodes_to, if_encodes_to}
use Rattle.command_reader.specs.Read.{EncodesTo}
use Rattle.command.specs.declared.Command.{Command}
use Rattle.command.proofs.Frames.{frame_bounds}

module _ (s : List ℕ) (c : Command) where
  -- The test passes exactly if the command encodes to the bytes.
  pub encodes_sound : encodes_to s c ≡ true → EncodesTo c s
  encodes_sound e =
      let h = (and-eq-true_iff (encodable c) (same_bytes (command_frame c) s)).0 e in
      (h.0, sym (same_sound (command_frame c) s h.1))

  pub encodes_complete : EncodesTo c s → encodes_to s c ≡ true
  encodes_complete h = rw h.0 (same_complete (command_frame c) s (sym h.1))

  -- The answer if it does not, and if it does.
  pub unencodable : encodable c ≡ false → if_encodes_to s c ≡ Err UnknownCommand
  unfolding if_encodes_to
  unencodable e = rw e

  pub unlike_frame : encodable c ≡ true → same_bytes (command_frame c) s ≡ false
      → if_encodes_to s c ≡ Err UnknownCommand
  unfolding if_encodes_to
  unlike_frame e f = rw (e, f)

  pub like_frame : encodable c ≡ true → same_bytes (command_frame c) s ≡ true → if_encodes_to s c ≡ Ok c
  unfolding if_encodes_to
  like_frame e f = rw (e, f)

-- If the encoder answers Ok, the command's frame is at the front of the buffer; 30 bytes are enough for any frame.
pub record Encoded (c : Command) (left : List ℕ) (n : ℕ) : Type 0 where
  pub good : encodable c ≡ true
  pub front : take n left ≡ command_frame c

module _ (c : Command) (out left : List ℕ) (r : Result ℕ Error)
    (h : Wrote (unsupported c) (command_frame c) out r left) where
  pub encode_ok : (n : ℕ) → r ≡ Ok n → Encoded c left n
  encode_ok n e =
      let w = wrote_all (command_frame c) out left n (unsupported c) (rw e at h) in
      record {
        good = none_good (encodable c) Unsupported w.good;
        front = rw (w.content, w.size) (written_front out (command_frame c));
      }

  pub encode_refused : 30 ≤ length out → (e : Error) → r ≡ Err e → encodable c ≡ false
  encode_refused room e q = go (encodable c) refl
    where
      go : (b : Bool) → encodable c ≡ b → encodable c ≡ false
      go true g =
          let f = command_frame c in
          let w = (wrote_whole f out (length f) (written out f) refl (omega (arith, (frame_bounds c).1)) refl).0 in
          let t = rw g at h.0 in
          let z : ◌≡◌ {A = ℕ} 0 1 = cc in
          absurd (omega arith)
      go false g = g
