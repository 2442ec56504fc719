-- `command_reader::if_encodes_to` meets its contract: the command's own frame is compared with the bytes.
-- Assumes nothing.
use mathlib.Core.Path.{sym, ◌∙◌}
use mathlib.Core.List.{List}
use Prim.Native.Nat.{ℕ}
use native.Mathlib.Omega.{arith}
use lib.ListN.{replicate}
use Rattle.command_reader.proofs.Encodes.{unencodable, unlike_frame, like_frame, encode_ok, encode_refused}
use Rattle.command_reader.proofs.if_encodes_to.Goals as goal

-- The array that the command is encoded into.
abbrev room : List ℕ
room = replicate 30 0

pub returns-in_default : goal.returns-in_default
returns-in_default c =
    let e = c.encode.ensures in
    let refused = encode_refused c.args.command room _ _ (e.told, e.left) (omega arith) _ c.in_default.is in
    record { read = sym (unencodable _ _ refused) }

pub returns-then-bytes_eq : goal.returns-then-bytes_eq
returns-then-bytes_eq c =
    let e = c.encode.ensures in
    let l = encode_ok c.args.command room _ _ (e.told, e.left) _ c.in-Ok.is in
    let same = sym (rw l.front at c.bytes_eq.ensures.compared) ∙ c.if-bytes_eq.true in
    record { read = sym (like_frame _ _ l.good same) }

pub returns-else-bytes_eq : goal.returns-else-bytes_eq
returns-else-bytes_eq c =
    let e = c.encode.ensures in
    let l = encode_ok c.args.command room _ _ (e.told, e.left) _ c.in-Ok.is in
    let other = sym (rw l.front at c.bytes_eq.ensures.compared) ∙ c.if-bytes_eq.false in
    record { read = sym (unlike_frame _ _ l.good other) }
