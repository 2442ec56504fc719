-- `wire::bytes_eq` meets its contract. The loop's invariant: the slices agree up to i. Assumes nothing.
use mathlib.Core.Path.{◌≡◌, refl, sym, ap, ◌∙◌}
use mathlib.Core.List.{List}
use Prim.Native.Nat.{ℕ, ◌+◌, ◌≤◌, ◌<◌}
use native.Mathlib.Numerals.{add-one}
use native.Mathlib.Omega.{arith}
use lib.ListN.{length, take, get_or}
use lib.Seq.{take-suc, take_all}
use Rattle.wire.proofs.Equality.{same_complete, same_differs}
use Rattle.wire.proofs.byte_string.bytes_eq.Goals as goal

-- Lists that agree up to i, and at i, agree up to i + 1.
one_more : (i : ℕ) (a b : List ℕ) → i < length a → i < length b → take i a ≡ take i b → get_or a i 0 ≡ get_or b i 0
    → take (i + 1) a ≡ take (i + 1) b
one_more i a b h k e g = rw (add-one i, take-suc a i 0 h, take-suc b i 0 k, e, g)

-- Lists that agree up to their end are the same.
all_agree : (i : ℕ) (a b : List ℕ) → length a ≤ i → length b ≤ i → take i a ≡ take i b → a ≡ b
all_agree i a b h k e = sym (take_all i a h) ∙ e ∙ take_all i b k

pub returns-then-a-b : goal.returns-then-a-b
returns-then-a-b c = record { compared = sym (same_differs _ _ (λ e. c.if-a-b.true (ap length e))) }

pub loop-i-init : goal.loop-i-init
loop-i-init c = (c.if-a-b.false, omega arith, refl)

pub bounds-a-i : goal.bounds-a-i
bounds-a-i c = omega arith

pub bounds-b-i : goal.bounds-b-i
bounds-b-i c = omega arith

pub returns-then-a-i : goal.returns-then-a-i
returns-then-a-i c = record { compared = sym (same_differs _ _ (λ e. c.if-a-i.true (cc))) }

pub loop-i-preserved : goal.loop-i-preserved
loop-i-preserved c = (cc, omega arith, one_more c.loop-i.i _ _ c.loop-i-test.true (omega arith) (cc) c.if-a-i.false)

pub returns : goal.returns
returns c = record { compared = sym (same_complete _ _ (all_agree c.loop-i.i _ _ (omega arith) (omega arith) (cc))) }
