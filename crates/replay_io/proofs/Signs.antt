-- Numbers of sixteen bits with a sign: how far they are from 0, and their text.
use mathlib.Core.Path.{◌≡◌, refl}
use mathlib.Core.Bool.{true, false, true≢false}
use mathlib.Core.List.{[], ◌∷◌}
use Prim.Native.Nat.{suc}
use native.Mathlib.Omega.{arith}
use lib.IntN.{ℤ, pos, negsuc, nat_abs}
use lib.Signed.{lt_z}
use borrow.Author.Tests.{ltb-true}
use Rattle.replay_io.specs.Line.{Gathered, put_all, decimal_of, numbers_of, signed_text}
use Rattle.replay_io.proofs.Puts.{put_append}

-- The text of a number has a minus sign before the digits exactly if it is below 0.
pub signed_minus : (g : Gathered) (z : ℤ) → lt_z z (pos 0) ≡ true
    → put_all (put_all g (32 ∷ 45 ∷ [])) (decimal_of (nat_abs z)) ≡ put_all g (signed_text z)
unfolding signed_text
signed_minus g (pos n) l = absurd (omega (arith, ltb-true n 0 l))
signed_minus g (negsuc n) l = put_append g (32 ∷ 45 ∷ []) (decimal_of (suc n))

pub signed_plus : (g : Gathered) (z : ℤ) → lt_z z (pos 0) ≡ false
    → put_all g (numbers_of (nat_abs z ∷ [])) ≡ put_all g (signed_text z)
unfolding signed_text
signed_plus g (pos n) l = refl
signed_plus g (negsuc n) l = absurd (true≢false l)
