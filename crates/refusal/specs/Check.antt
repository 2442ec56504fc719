-- The checks of document 01 as values, and which of them fails first.
--   Checks              checks in the order in which they are made, each with its test of a byte string
--   or_failed holds c later   the check c if its test does not hold, else what failed later
--   first_failed cs s    the first of the checks cs that fails on s, if any
--   Passes cs s         every check of cs holds on s
--   FailsFirst cs c s   the check c of cs fails on s, and each check before it holds
--   error_of c           the refusal if c is the first check that fails: 2 for R6 ("else refusal 2"), 1 for every other
--   checked_by cs s v    the answer by the checks cs on s: the first that fails, or the value v if every one holds
--   told_by a            the answer a with the refusal in place of the check
--   Causes z cs s r     r returns each number exactly in its cause, and beside a refusal every other field is 0; z is
--                       the value with every field 0
use Rattle.std.specs.Prelude.{◌≡◌, ◌≢◌, ◌↔◌, ◌⊎◌, List, [], ◌∷◌, ◌++◌, Bool, true, false, cond, ℕ, Some, None}
use Rattle.std.specs.declared.option.Option.{Option}
use Rattle.std.specs.Result.{result_map_both}
use Rattle.std.specs.declared.result.Result.{Result}
use Rattle.refusal.specs.declared.Error.{Error}
use Rattle.refusal.specs.declared.Error.TheVariants.{InvalidFormat, Unsupported}
use Rattle.refusal.specs.Refusal.{Returned, or_error}
use Rattle.refusal.specs.declared.Check.{Check}
use Rattle.refusal.specs.declared.Check.TheVariants.{F1, F2, F3, F4, R1, R2, R3, R4, R5, R6, R7, R8, A1, A2}

abbrev pub Checks : Type 0
Checks = List (Check × (List ℕ → Bool))

abbrev pub or_failed : Bool → Check → Option Check → Option Check
or_failed holds c later = cond holds later (Some c)

abbrev pub first_failed : Checks → List ℕ → Option Check
first_failed [] s = None
first_failed (x ∷ cs) s = or_failed (x.1 s) x.0 (first_failed cs s)

abbrev pub Passes : Checks → List ℕ → Type 0
Passes [] s = Unit {0}
Passes (x ∷ cs) s = (x.1 s ≡ true) × Passes cs s

pub record FailsFirst (cs : Checks) (c : Check) (s : List ℕ) : Type 0 where
  pub before : Checks
  pub test : List ℕ → Bool
  pub after : Checks
  pub split : cs ≡ before ++ ((c, test) ∷ after)
  pub held : Passes before s
  pub failed : test s ≡ false

abbrev pub error_of : Check → Error
error_of F1 = InvalidFormat
error_of F2 = InvalidFormat
error_of F3 = InvalidFormat
error_of F4 = InvalidFormat
error_of R1 = InvalidFormat
error_of R2 = InvalidFormat
error_of R3 = InvalidFormat
error_of R4 = InvalidFormat
error_of R5 = InvalidFormat
error_of R6 = Unsupported
error_of R7 = InvalidFormat
error_of R8 = InvalidFormat
error_of A1 = InvalidFormat
error_of A2 = InvalidFormat

abbrev pub checked_by : {A : Type 0} → Checks → List ℕ → A → Result A Check
checked_by cs s v = or_error (first_failed cs s) v

abbrev pub told_by : {A : Type 0} → Result A Check → Result A Error
told_by a = result_map_both (λ v. v) error_of a

pub record Causes {A : Type 0} (z : A) (cs : Checks) (s : List ℕ) (r : Returned A) : Type 0 where
  -- nothing is refused exactly if every check holds
  pub accepted : r.number ≡ 0 ↔ Passes cs s
  -- 1 is returned exactly if the first check that fails is not R6
  pub invalid : r.number ≡ 1 ↔ (c : Check) × FailsFirst cs c s × (c ≢ R6)
  -- 2 is returned exactly if it is R6
  pub unsupported : r.number ≡ 2 ↔ FailsFirst cs R6 s
  -- no other number is returned
  pub total : (r.number ≡ 0) ⊎ ((r.number ≡ 1) ⊎ (r.number ≡ 2))
  -- "number, other fields 0"
  pub blank : r.number ≢ 0 → r ≡ record { number = r.number; needed = 0; value = z }
