-- `command_reader::read_command` meets its contract. Assumes nothing.
use mathlib.Core.List.{List}
use Prim.Native.Nat.{ℕ}
use Rattle.writer.specs.RoundTrip.{RoundTrip}
use Rattle.command.specs.declared.Command.{Command}
use Rattle.command_reader.specs.Read.{ReadTo, OneAnswer, ReadCauses, commands}
use Rattle.command_reader.specs.Claims.{NearGates}
use Rattle.std.specs.declared.result.Result.{Result}
use Rattle.refusal.specs.declared.Error.{Error}
use Rattle.command_reader.proofs.CommandRead.{read_invalid, read_valid, one_answer, read_causes}
use Rattle.command_reader.proofs.RoundTrip.{commands_agree}
use Rattle.command_reader.proofs.Near.{near_unknown}
use Rattle.command_reader.proofs.read_command.Goals as goal

-- What is to be shown, from the answer's rule.
shown : (s : List ℕ) (r : Result Command Error) → ReadTo s r
    → record {
      read : ReadTo s r;
      alone : OneAnswer s;
      causes : ReadCauses s r;
      round : (c : Command) → RoundTrip commands c;
      near : NearGates s r;
    }
shown s r h = record {
  read = h;
  alone = one_answer s;
  causes = read_causes s h;
  round = commands_agree;
  near = near_unknown s r h;
}

pub returns-then-not-is_command_frame : goal.returns-then-not-is_command_frame
returns-then-not-is_command_frame c =
    shown _ _ (read_invalid _ _ c.is_command_frame.ensures.tested c.if-not-is_command_frame.true)

pub returns : goal.returns
returns c =
    let is = c.is_command_frame.ensures.tested.0 c.if-not-is_command_frame.false in
    shown _ _ (rw (c.if_encodes_to.ensures.read, c.candidate_in.ensures.chosen) (read_valid _ is))
