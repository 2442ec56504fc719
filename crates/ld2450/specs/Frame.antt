-- The LD2450's frame, and what it is read as: request 6.
--   header, tail        the bytes that begin and end a frame
--   framed d            the frame with the target bytes d
--   IsFrame s           s is a frame; is_frame s is the same as a test
--   held_in s            the target bytes of the frame s
--   no_targets           three absent targets: every field 0
--   parsed_targets s     the reader's answer for s
--   ReadCauses s r      r returns 1 and every other field 0 exactly if s is no frame, else the targets of the frame
--   OneAnswer s         these causes leave no choice of number and targets
use Rattle.std.specs.Prelude.{◌≡◌, ◌↔◌, ◌⊎◌, List, [], ◌∷◌, ◌++◌, Bool, cond, ◌&&◌, ℕ, eqb, length, take, drop, Ok, Err}
use Rattle.std.specs.declared.result.Result.{Result}
use Rattle.refusal.specs.Refusal.{Returned}
use Rattle.refusal.specs.declared.Error.{Error}
use Rattle.refusal.specs.declared.Error.TheVariants.{InvalidFormat}
use Rattle.wire.specs.Equal.{same_bytes}
use Rattle.ld2450.specs.Target.{absent, three_of}
use Rattle.ld2450.specs.declared.targets.Target.{Target}

abbrev pub header : List ℕ
header = 0xAA ∷ 0xFF ∷ 0x03 ∷ 0x00 ∷ []

abbrev pub tail : List ℕ
tail = 0x55 ∷ 0xCC ∷ []

-- "Its frame is AA FF 03 00, three targets of eight bytes, 55 CC: 30 bytes."
abbrev pub framed : List ℕ → List ℕ
framed d = header ++ (d ++ tail)

pub record IsFrame (s : List ℕ) : Type 0 where
  pub held : List ℕ
  pub all_there : length held ≡ 24
  pub spelled : s ≡ framed held

unfoldable pub is_frame : List ℕ → Bool
is_frame s = eqb (length s) 30 && (same_bytes (take 4 s) header && same_bytes (drop 28 s) tail)

abbrev pub held_in : List ℕ → List ℕ
held_in s = take 24 (drop 4 s)

abbrev pub no_targets : List Target
no_targets = absent ∷ absent ∷ absent ∷ []

-- "a frame reader, which gives 1 to all bytes but such a frame"
unfoldable pub parsed_targets : List ℕ → Result (List Target) Error
parsed_targets s = cond (is_frame s) (Ok (three_of (held_in s))) (Err InvalidFormat)

pub record ReadCauses (s : List ℕ) (r : Returned (List Target)) : Type 0 where
  -- nothing is refused exactly if the bytes are a frame, and then its targets are given
  pub accepted : r.number ≡ 0 ↔ IsFrame s
  pub given : (f : IsFrame s) → r.value ≡ three_of f.held
  -- 1 is given to all others, "other fields 0"
  pub invalid : r.number ≡ 1 ↔ (¬ IsFrame s)
  pub returned : (r.number ≡ 0) ⊎ (r ≡ record { number = 1; needed = 0; value = no_targets })

abbrev pub OneAnswer : List ℕ → Type 0
OneAnswer s = (r q : Returned (List Target)) → ReadCauses s r → ReadCauses s q
    → (r.number ≡ q.number) × (r.value ≡ q.value)
