-- The headers and tails of the two kinds, and the kind whose header four bytes are.
use mathlib.Core.Path.{◌≡◌, refl}
use mathlib.Core.List.{List}
use mathlib.Core.Bool.{Bool, true, false, cond}
use Prim.Native.Nat.{ℕ}
use native.Mathlib.Omega.{arith}
use lib.ListN.{length}
use Rattle.wire.specs.Equal.{same_bytes}
use Rattle.wire.proofs.Equality.{same_sound}
use Rattle.wire.specs.Family.{header, tail, header_of}
use Rattle.wire.specs.declared.Kind.{Kind}
use Rattle.wire.specs.declared.Kind.TheVariants.{Report, Command}
use Rattle.std.specs.Prelude.{Some, None}

-- A header and a tail have four bytes.
pub header_length : (k : Kind) → length (header k) ≡ 4
header_length Report = refl
header_length Command = refl

pub tail_length : (k : Kind) → length (tail k) ≡ 4
tail_length Report = refl
tail_length Command = refl

module _ (s : List ℕ) where
  pub header_report : same_bytes s (header Report) ≡ true → header_of s ≡ Some Report
  unfolding header_of
  header_report e = rw e

  pub header_command : same_bytes s (header Report) ≡ false → same_bytes s (header Command) ≡ true
      → header_of s ≡ Some Command
  unfolding header_of
  header_command e f = rw (e, f)

  pub header_none : same_bytes s (header Report) ≡ false → same_bytes s (header Command) ≡ false → header_of s ≡ None
  unfolding header_of
  header_none e f = rw (e, f)

  -- If a kind is found, the bytes are its header.
  found_sound : (k : Kind) (a b : Bool) → same_bytes s (header Report) ≡ a → same_bytes s (header Command) ≡ b
      → cond a (Some Report) (cond b (Some Command) None) ≡ Some k → s ≡ header k
  found_sound k true b p q e = let z : Report ≡ k = cc in rw (← z) (same_sound s (header Report) p)
  found_sound k false true p q e = let z : Command ≡ k = cc in rw (← z) (same_sound s (header Command) q)
  found_sound k false false p q e = let z : ◌≡◌ {A = ℕ} 0 1 = cc in absurd (omega arith)

  pub header_sound : (k : Kind) → header_of s ≡ Some k → s ≡ header k
  unfolding header_of
  header_sound k e = found_sound k (same_bytes s (header Report)) (same_bytes s (header Command)) refl refl e

pub header_complete : (k : Kind) → header_of (header k) ≡ Some k
unfolding header_of same_bytes
header_complete Report = refl
header_complete Command = refl
