-- What the encoder answers and leaves: its refusal of the values, or what the writer of the frame gives.
use mathlib.Core.Path.{◌≡◌}
use mathlib.Core.List.{List}
use mathlib.Core.Bool.{true, false}
use Rattle.std.specs.Prelude.{None, Err}
use Rattle.std.specs.declared.result.Result.{Result}
use Prim.Native.Nat.{ℕ}
use lib.ListN.{length}
use native.Mathlib.Omega.{arith}
use Rattle.refusal.specs.declared.Error.{Error}
use Rattle.refusal.specs.declared.Error.TheVariants.{Unsupported}
use Rattle.writer.specs.Written.{write_result, buffer_after, WriteCauses}
use Rattle.writer.proofs.Writers.{Wrote, wrote_refused, shown}
use Rattle.command.specs.Command.{word_of, value_of, command_frame, encodable, unsupported}
use Rattle.command.specs.Claims.{FarthestGates, Sensitivities}
use Rattle.cursor.specs.CommandFrame.{frame_with}
use Rattle.command.specs.declared.Command.{Command}
use Rattle.cursor.specs.declared.command_frame.Value.{Value}
use Rattle.cursor.proofs.CommandFrame.{Made}
use Rattle.command.proofs.Farthest.{farthest_gates, sensitivities}

module _ (c : Command) (out : List ℕ) where
  -- What the encoder has to show: its answer, its buffer, the causes, and the gates and sensitivities among them.
  abbrev pub Encoded : Result ℕ Error → List ℕ → Type 0
  Encoded r left =
      record {
        told : r ≡ write_result (unsupported c) (command_frame c) (length out);
        left : left ≡ buffer_after (unsupported c) (command_frame c) out;
        causes : WriteCauses 2 (encodable c ≡ false) (command_frame c) (length out) r;
        farthest : FarthestGates c r;
        sensitivities : Sensitivities c r;
      }

  encoded : (left : List ℕ) {r : Result ℕ Error} → Wrote (unsupported c) (command_frame c) out r left
      → Encoded r left
  encoded left h =
      let t = shown Unsupported (λ z. omega arith) (λ z. omega arith) (encodable c) (command_frame c) out left h in
      let n = length out in
      record {
        told = t.told;
        left = t.left;
        causes = t.causes;
        farthest = farthest_gates c (command_frame c) n t.causes;
        sensitivities = sensitivities c (command_frame c) n t.causes;
      }

  pub encode_refused : encodable c ≡ false → Encoded (Err Unsupported) out
  encode_refused e = encoded out (rw e (wrote_refused (command_frame c) out Unsupported))

  pub encode_made : (w : ℕ) (v : Value) (left : List ℕ) (r : Result ℕ Error) → encodable c ≡ true → w ≡ word_of c
      → v ≡ value_of c → Made w v out r left → Encoded r left
  encode_made w v left r e p q h =
      let wrote : Wrote None (frame_with w v) out r left = (h.told, h.left) in
      encoded left (rw (e, ← p, ← q) wrote)
