-- The encoder and the reader of commands agree.
use mathlib.Core.Path.{refl, sym}
use mathlib.Core.List.{List, ◌++◌}
use Prim.Native.Nat.{ℕ}
use native.Mathlib.Omega.{arith}
use Rattle.wire.specs.Bytes.{Bytes}
use Rattle.wire.specs.Number.{le_bytes}
use Rattle.refusal.specs.declared.Error.TheVariants.{Unsupported}
use Rattle.wire.proofs.Bytes.{bytes_append, bytes_le_bytes}
use Rattle.wire.proofs.Framed.{framed_bytes}
use Rattle.wire.specs.declared.Kind.TheVariants as Family
use Rattle.writer.specs.RoundTrip.{RoundTrip}
use Rattle.writer.proofs.RoundTrip.{round_trip}
use Rattle.cursor.specs.CommandFrame.{record_bytes, value_bytes, data_with}
use Rattle.cursor.specs.declared.command_frame.Value.{Value}
use Rattle.cursor.specs.declared.command_frame.Value.TheVariants as Of
use Rattle.command.specs.Command.{word_of, value_of, encodable}
use Rattle.command.specs.declared.Command.{Command}
use Rattle.command_reader.specs.Read.{EncodesTo, ReadTo, is_command, commands}
use Rattle.std.specs.Prelude.{Ok}
use Rattle.command_reader.proofs.CommandRead.{read_causes}

-- The data of a command's frame are bytes.
record_bytes_lem : (k v : ℕ) → Bytes (record_bytes k v)
record_bytes_lem k v = bytes_append (le_bytes 2 k) (le_bytes 4 v) (bytes_le_bytes 2 k) (bytes_le_bytes 4 v)

value_bytes_lem : (v : Value) → Bytes (value_bytes v)
value_bytes_lem Of.None = tt
value_bytes_lem (Of.Number v) = bytes_le_bytes 2 v
value_bytes_lem (Of.Records a b c) =
    bytes_append (record_bytes 0 a) (record_bytes 1 b ++ record_bytes 2 c) (record_bytes_lem 0 a)
    (bytes_append (record_bytes 1 b) (record_bytes 2 c) (record_bytes_lem 1 b) (record_bytes_lem 2 c))

data_bytes : (w : ℕ) (v : Value) → Bytes (data_with w v)
unfolding data_with
data_bytes w v = bytes_append (le_bytes 2 w) (value_bytes v) (bytes_le_bytes 2 w) (value_bytes_lem v)

-- A command that is read encodes to the bytes it was read from.
read_encodes : (s : List ℕ) (c : Command) → ReadTo s (Ok c) → EncodesTo c s
read_encodes s c h = ((read_causes s h).read c).0 refl

pub commands_agree : (c : Command) → RoundTrip commands c
commands_agree c =
    round_trip {e = Unsupported} {good = encodable c} (record {
      refused = refl;
      number = refl;
      apart = λ z. omega arith;
      some = λ z. omega arith;
      bytes = λ g.
          framed_bytes Family.Command (data_with (word_of c) (value_of c)) (data_bytes (word_of c) (value_of c));
      written = λ g. record { within = tt; kept = tt; read = is_command c (g, refl) };
      found = λ s b w h. (read_encodes s c h).0;
      again = λ s b w k h. sym (read_encodes s c h).1;
    })
