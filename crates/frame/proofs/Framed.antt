-- `framed k d` passes the checks of the envelope, and a byte string that passes them is the frame around its data.
use mathlib.Core.Path.{◌≡◌, sym}
use mathlib.Core.List.{List}
use Prim.Native.Nat.{ℕ, ◌+◌, ◌<◌}
use native.Mathlib.Omega.{arith}
use lib.ListN.{length}
use Rattle.wire.specs.Number.{number_at}
use Rattle.wire.proofs.Numbers.{read_there}
use borrow.Author.Rules.{part_to_end}
use Rattle.wire.specs.Bytes.{Bytes}
use Rattle.wire.specs.Family.{framed}
use Rattle.wire.specs.declared.Kind.{Kind}
use Rattle.wire.proofs.Equality.{same_complete}
use Rattle.wire.proofs.Framed.{framed_family, framed_length, framed_tail, framed_announced, framed_again}
use Rattle.frame.specs.Envelope.{data_of, envelope}
use Rattle.frame.specs.declared.envelope.Envelope.{Envelope}
use Rattle.frame.proofs.Opened.{around, passes, opened_data}
use Rattle.std.specs.Prelude.{Some, Ok}

pub opened_framed : (k : Kind) (d : List ℕ) → length d < 65536 → envelope (framed k d) ≡ Ok (around k (6 + length d))
opened_framed k d small =
    let n = framed_announced k d small in
    let l = framed_length k d in
    let says : number_at 2 (framed k d) 4 ≡ Some (length d) =
    read_there 2 (framed k d) 4 (record { inside = omega arith; value = sym n }) in
    passes (framed k d) k (framed_family k d) (length d) says (omega arith)
    (rw part_to_end (same_complete _ _ (framed_tail k d)))

pub framed_opened : (s : List ℕ) (v : Envelope) → envelope s ≡ Ok v → Bytes s → s ≡ framed v.kind (data_of s)
framed_opened s v e b =
    let h = opened_data s v e in
    framed_again v.kind s b h.announces h.inside h.tailed
