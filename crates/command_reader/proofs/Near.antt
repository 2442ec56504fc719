-- The bytes of a `SetMaxGates` with a farthest gate of 0 or 1: no command encodes to them, and the reader gives 5.
use mathlib.Core.Path.{◌≡◌, refl, ap}
use mathlib.Core.Logic.{◌⊎◌, inl, inr, ⊎_map}
use mathlib.Core.List.{List, [], ◌∷◌}
use mathlib.Core.Bool.{false, ◌&&◌}
use Prim.Native.Nat.{ℕ, ◌/◌, ◌%◌}
use native.Mathlib.Omega.{arith}
use lib.Dec.{leb}
use Rattle.std.specs.Prelude.{Err}
use Rattle.std.specs.declared.result.Result.{Result}
use Rattle.refusal.specs.declared.Error.{Error}
use Rattle.refusal.specs.declared.Error.TheVariants.{UnknownCommand}
use Rattle.wire.specs.Number.{little, number_at}
use Rattle.wire.specs.Family.{framed}
use Rattle.cursor.specs.CommandFrame.{data_with}
use Rattle.command.specs.Setting.{farthest}
use Rattle.command.specs.Command.{command_frame, encodable}
use Rattle.command.specs.Claims.{TooNear}
use Rattle.command.specs.declared.Command.TheVariants.{SetMaxGates}
use Rattle.command.proofs.Farthest.{and_eq_false_iff, outside_refused}
use Rattle.command_reader.specs.CommandFrame.{number_in}
use Rattle.command_reader.specs.Candidate.{candidate, candidate_in}
use Rattle.command_reader.specs.Read.{ReadTo, returned_read}
use Rattle.command_reader.specs.Claims.{NearGates}
use Rattle.command.specs.declared.Command.{Command}
use Rattle.command_reader.proofs.Candidates.{low_byte}
use Rattle.command_reader.proofs.CommandRead.{frame_command, read_unencodable, one_answer}

-- The number that the two lowest bytes of x make.
abbrev two : ℕ → ℕ
two x = little (x % 256 ∷ x / 256 % 256 ∷ [])

-- A gate of 0 or 1, taken from its bytes, may not be the farthest.
near_bytes : (i : ℕ) → TooNear i → farthest (two i % 256) ≡ false
near_bytes i h = rw (low_byte i (omega arith)) (outside_refused i (inl h))

module _ (m s n : ℕ) where
  gates_candidate : candidate_in (command_frame (SetMaxGates m s n)) ≡ SetMaxGates (two m % 256) (two s % 256) (two n)
  unfolding candidate_in number_in number_at candidate framed data_with
  gates_candidate = refl

  near_unencodable : TooNear m ⊎ TooNear s → encodable (candidate_in (command_frame (SetMaxGates m s n))) ≡ false
  near_unencodable h =
      let p = farthest (two m % 256) in
      let q = farthest (two s % 256) in
      rw gates_candidate
      ((and_eq_false_iff (leb (two n) 65535) (p && q)).1
      (inr ((and_eq_false_iff p q).1 (⊎_map (near_bytes m) (near_bytes s) h))))

pub near_unknown : (b : List ℕ) (r : Result Command Error) → ReadTo b r → NearGates b r
near_unknown b r h m s n k e =
    let near = read_unencodable (command_frame (SetMaxGates m s n)) (frame_command (SetMaxGates m s n)) in
    let u : ReadTo b (Err UnknownCommand) = rw e (near (near_unencodable m s n k)) in
    ap (λ (x : Result Command Error). (returned_read x).number) (one_answer b r (Err UnknownCommand) h u)
