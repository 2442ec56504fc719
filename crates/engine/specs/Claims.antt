-- The claims about calls and their stretches, in reading order. src/lib.rt pins each of them in a contract. Answers,
-- states and calls are lists of numbers here, since a contract can hold no statement about all types. The laws in
-- proofs/ have no such limit.
use Rattle.std.specs.Prelude.{◌≡◌, ℕ}
use mathlib.Core.List.{List, ◌∷◌, ◌++◌, Memᴰ}
use Rattle.engine.specs.Runs as Runs
use Rattle.wire.specs.Bytes.{Byte, Bytes}
use Rattle.engine.specs.Calls.{feed, slice, reset, ByteCall, Goes}
use Rattle.engine.specs.Calls.{Did, Took, taken, taken_by, stretches, so_far, up_to_reset}
use Rattle.engine.specs.Fulfilled.{join_over}

-- On any machine, the calls ds after the calls cs do what ds do from the state that cs left.
unfoldable pub HistoryAppend : Type 0
HistoryAppend = (M : Runs.Machine (List ℕ) (List ℕ) (List ℕ)) (s : List ℕ) (cs ds : List (List ℕ))
    → (Runs.history M s (cs ++ ds) ≡ Runs.history M s cs ++ Runs.history M (Runs.final M s cs) ds)
    × (Runs.final M s (cs ++ ds) ≡ Runs.final M (Runs.final M s cs) ds)

-- `ByteCall` asks of a call only that it passes bytes, and `Goes` leaves out only a reset.
unfoldable pub AnyCall : Type 0
AnyCall = ((b : ℕ) → Byte b → ByteCall (feed b) × Goes (feed b))
    × ((bs : List ℕ) → Bytes bs → ByteCall (slice bs) × Goes (slice bs)) × ByteCall reset × (Goes reset → ⊥)

-- The stretches, joined, are the pending bytes and all the bytes taken: no byte is lost between them.
unfoldable pub StretchesJoined : Type 0
StretchesJoined = (p : List ℕ) (ds : List (Did (List ℕ))) → join_over (λ t. t) (stretches p ds) ≡ p ++ taken_by ds

-- The bytes before a call in its stretch, the bytes that it took and those after it are, joined, one of the stretches.
unfoldable pub StretchOfCall : Type 0
StretchOfCall = (p : List ℕ) (before : List (Did (List ℕ))) (d : Did (List ℕ)) (after : List (Did (List ℕ)))
    → Took d → Memᴰ (so_far p before ++ (taken d ++ up_to_reset after)) (stretches p (before ++ (d ∷ after)))
