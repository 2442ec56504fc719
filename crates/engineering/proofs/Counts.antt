-- The gate counts of an engineering block: when the block fits.
use mathlib.Core.Path.{◌≡◌}
use mathlib.Core.List.{List}
use mathlib.Core.Bool.{true, and-eq-true_iff}
use Prim.Native.Nat.{ℕ, ◌+◌, ◌≤◌}
use lib.ListN.{length}
use borrow.Author.Tests.{le-leb, leb-true}
use Rattle.engineering.specs.Gates.{moving_gates_in, stationary_gates_in, gates_fit}

-- What `gates_fit` tests: the two counts are there, each is in range, and the energies are there.
pub record Fits (b : List ℕ) : Type 0 where
  pub counts : 2 ≤ length b
  pub moving : moving_gates_in b ≤ 9
  pub stationary : stationary_gates_in b ≤ 9
  pub energies : 2 + moving_gates_in b + stationary_gates_in b ≤ length b

module _ (b : List ℕ) where
  pub fits_complete : Fits b → gates_fit b ≡ true
  unfolding gates_fit
  fits_complete h =
      rw (
        le-leb 2 (length b) h.counts,
        le-leb (moving_gates_in b) 9 h.moving,
        le-leb (stationary_gates_in b) 9 h.stationary,
        le-leb (2 + moving_gates_in b + stationary_gates_in b) (length b) h.energies,
      )

  pub fits_sound : gates_fit b ≡ true → Fits b
  unfolding gates_fit
  fits_sound e =
      let x = (and-eq-true_iff _ _).0 e in
      let y = (and-eq-true_iff _ _).0 x.1 in
      let z = (and-eq-true_iff _ _).0 y.1 in
      record {
        counts = leb-true 2 (length b) x.0;
        moving = leb-true (moving_gates_in b) 9 y.0;
        stationary = leb-true (stationary_gates_in b) 9 z.0;
        energies = leb-true (2 + moving_gates_in b + stationary_gates_in b) (length b) z.1;
      }
