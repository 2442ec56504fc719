-- The tests of counts, and what they mean: a count is within its bounds, and the entries after it are 0.
use mathlib.Core.Path.{◌≡◌, refl}
use mathlib.Core.List.{List}
use mathlib.Core.Bool.{Bool, true, false, cond, ◌&&◌, and-eq-true_iff}
use Prim.Native.Nat.{ℕ, ◌≤◌}
use lib.Dec.{leb}
use lib.ListN.{drop}
use borrow.Author.Tests.{le-leb, leb-true}
use Rattle.engineering.specs.declared.Engineering.{Engineering}
use Rattle.report.specs.declared.Report.{Report}
use Rattle.report_writer.specs.Writable.{all_zero, counted, within, writable}

pub record Counted (a b n : ℕ) (s : List ℕ) : Type 0 where
  pub least : a ≤ n
  pub most : n ≤ b
  pub after : all_zero (drop n s) ≡ true

module _ (a b n : ℕ) (s : List ℕ) where
  counted_sound : counted a b n s ≡ true → Counted a b n s
  unfolding counted
  counted_sound e =
      let x = (and-eq-true_iff (leb a n) (leb n b && all_zero (drop n s))).0 e in
      let y = (and-eq-true_iff (leb n b) (all_zero (drop n s))).0 x.1 in
      record { least = leb-true a n x.0; most = leb-true n b y.0; after = y.1 }

  counted_complete : Counted a b n s → counted a b n s ≡ true
  unfolding counted
  counted_complete h = rw (le-leb a n h.least, le-leb n b h.most) h.after

pub record Within (a b k : ℕ) (e : Engineering) : Type 0 where
  pub moving : Counted a b e.moving_gates e.moving_energy
  pub stationary : Counted a b e.stationary_gates e.stationary_energy
  pub reserved : Counted 0 k e.extra_len e.extra

module _ (a b k : ℕ) (e : Engineering) where
  pub within_sound : within a b k e ≡ true → Within a b k e
  unfolding within
  within_sound h =
      let x = (and-eq-true_iff _ _).0 h in
      let y = (and-eq-true_iff _ _).0 x.1 in
      record {
        moving = counted_sound a b _ _ x.0;
        stationary = counted_sound a b _ _ y.0;
        reserved = counted_sound 0 k _ _ y.1;
      }

  pub within_complete : Within a b k e → within a b k e ≡ true
  unfolding within
  within_complete h =
      rw (counted_complete a b _ _ h.moving, counted_complete a b _ _ h.stationary)
      (counted_complete 0 k _ _ h.reserved)

-- A report that can be written: its counts are within the bounds for its flag, on or off.
pub data Writable (r : Report) : Type 0 where
  flag_on : r.has_engineering ≡ true → Within 1 9 8 r.engineering → Writable r
  flag_off : r.has_engineering ≡ false → Within 0 0 0 r.engineering → Writable r

pub writable_sound : (r : Report) → writable r ≡ true → Writable r
writable_sound r e = go r.has_engineering refl e
  where
    go : (g : Bool) → r.has_engineering ≡ g
        → cond g (within 1 9 8 r.engineering) (within 0 0 0 r.engineering) ≡ true → Writable r
    go true h e = flag_on h (within_sound 1 9 8 r.engineering e)
    go false h e = flag_off h (within_sound 0 0 0 r.engineering e)
