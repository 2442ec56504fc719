-- Which reports can be written: those that the reader can give, with at most eight reserved bytes.
--   all_zero s           every entry of s is 0
--   counted a b n s     the count n is a to b, and every entry of s after the first n is 0
--   within a b k e      `counted` holds of both kinds of energies of e for a to b, and of its reserved bytes for 0 to k
--   writable r          with the flag of r on, its gate counts are 1 to 9, `extra_len` is at most 8, and entries past
--                       these counts are 0; with it off, every count and entry is 0
--   unrepresentable r   refusal 6, unless the report r can be written
use Rattle.std.specs.Prelude.{List, Bool, cond, ◌&&◌, ℕ, leb, eqb, drop}
use Rattle.std.specs.List.{list_all}
use Rattle.std.specs.declared.option.Option.{Option}
use Rattle.refusal.specs.declared.Error.{Error}
use Rattle.refusal.specs.declared.Error.TheVariants.{Unrepresentable}
use Rattle.writer.specs.Written.{unless}
use Rattle.engineering.specs.declared.Engineering.{Engineering}
use Rattle.report.specs.declared.Report.{Report}

abbrev pub all_zero : List ℕ → Bool
all_zero s = list_all (λ b. eqb b 0) s

unfoldable pub counted : ℕ → ℕ → ℕ → List ℕ → Bool
counted a b n s = leb a n && (leb n b && all_zero (drop n s))

unfoldable pub within : ℕ → ℕ → ℕ → Engineering → Bool
within a b k e =
    counted a b e.moving_gates e.moving_energy
    && (counted a b e.stationary_gates e.stationary_energy && counted 0 k e.extra_len e.extra)

-- "`max_moving_gate`, `max_stationary_gate` (each 0 to 8), that many plus one energies of each"; "`extra_len` above 8"
-- and "with the flag off, each per-gate field is 0"
abbrev pub writable : Report → Bool
writable r = cond r.has_engineering (within 1 9 8 r.engineering) (within 0 0 0 r.engineering)

-- "a value that the reader can't give, `extra_len` above 8"
abbrev pub unrepresentable : Report → Option Error
unrepresentable r = unless (writable r) Unrepresentable
