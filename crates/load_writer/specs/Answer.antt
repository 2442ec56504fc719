-- The answer of the writer of loads, and the buffer that it leaves: request 8.
--   load_number e       the number of the refusal e
--   load_result x n     the answer for the seed x and a buffer of n bytes
--   load_buffer x out   the buffer afterwards: the load and the old bytes after it, or as it was if the seed is refused
--   returned_load r     the number and the filled length that the answer r returns
--   LoadCauses x n r   9 is given exactly to the seed zero, and nothing is returned beside it
use Rattle.std.specs.Prelude.{◌≡◌, ◌≢◌, ◌↔◌, List, cond, ℕ, Ok, Err, eqb, length}
use Rattle.std.specs.declared.result.Result.{Result}
use Rattle.refusal.specs.Refusal.{Returned, accepted}
use Rattle.writer.specs.Written.{written}
use Rattle.load_writer.specs.Load.{load}
use Rattle.load_writer.specs.declared.LoadError.{LoadError}
use Rattle.load_writer.specs.declared.LoadError.TheVariants.{SeedZero}

-- "New numbers: 9, seed zero"
abbrev pub load_number : LoadError → ℕ
load_number SeedZero = 9

-- "The filled length is returned"; "9, seed zero, tested before all else"
unfoldable pub load_result : ℕ → ℕ → Result ℕ LoadError
load_result x n = cond (eqb x 0) (Err SeedZero) (Ok (length (load x n)))

-- "bytes after it stay"
unfoldable pub load_buffer : ℕ → List ℕ → List ℕ
load_buffer x out = cond (eqb x 0) out (written out (load x (length out)))

-- "Each new number, here and later, is returned with the answer's other fields 0."
abbrev pub returned_load : Result ℕ LoadError → Returned ℕ
returned_load (Ok n) = accepted n
returned_load (Err e) = record { number = load_number e; needed = 0; value = 0 }

pub record LoadCauses (x n : ℕ) (r : Result ℕ LoadError) : Type 0 where
  -- nothing is refused exactly if the seed is not zero, and then the filled length is returned
  pub accepted : (returned_load r).number ≡ 0 ↔ x ≢ 0
  pub returned : x ≢ 0 → returned_load r ≡ record { number = 0; needed = 0; value = length (load x n) }
  -- 9 is given exactly to the seed zero
  pub zero_seed : (returned_load r).number ≡ 9 ↔ x ≡ 0
  -- "other fields 0"
  pub refused : x ≡ 0 → returned_load r ≡ record { number = 9; needed = 0; value = 0 }
