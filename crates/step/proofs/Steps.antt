-- Every step of a well-formed scan follows the scanner's: in a header, in the length, among the data bytes, in a tail.
use mathlib.Core.Path.{◌≡◌, refl}
use mathlib.Core.List.{List}
use mathlib.Core.Bool.{true, and-eq-true_iff}
use Prim.Native.Nat.{ℕ, ◌+◌, ◌≤◌, ◌<◌}
use native.Mathlib.Omega.{arith}
use lib.Dec.{eqb, leb, ltb}
use lib.ListN.{length, get_or}
use borrow.Author.Tests.{ltb-true, leb-true}
use Rattle.wire.specs.Family.{tail}
use Rattle.wire.specs.declared.Kind.{Kind}
use Rattle.framing.proofs.Scanner as Scanner
use Rattle.stream.specs.Length.{in_range}
use Rattle.stream.proofs.Link.{link}
use Rattle.scan.specs.Scan.{well_formed_in, well_formed}
use Rattle.scan.specs.Stands.{pending_in, pending_of}
use Rattle.step.specs.Step.{step_in_state, step_of}
use Rattle.step.specs.Step.{stored_in, stored}
use Rattle.scan.specs.declared.State.{State}
use Rattle.scan.specs.declared.State.TheVariants.{Header, Len, Data, Tail}
use Rattle.scan.specs.declared.Scan.{Scan}
use Rattle.scan.specs.declared.stats.Stats.{Stats}
use Rattle.step.proofs.Follow.{Capped, Follows}
use Rattle.stream.proofs.Words.{range_true}
use Rattle.step.proofs.HeadSteps.{header_follows, length_follows}
use Rattle.step.proofs.BodySteps.{data_as, tail_as}

-- Every step of a well-formed scan, at the largest length `limit`, with room for as many data bytes.
module _ (limit : ℕ) (limit-small : limit < 65536) (st : Stats) (cap : Capped st) (buf : List ℕ)
    (room : limit ≤ length buf)
    (b : ℕ) (byte : b < 256) where
  follows_in : (s : State) (k : Kind) (m n p : ℕ) → well_formed_in limit s m n p ≡ true
      → Follows limit (step_in_state limit s k m n p st b) st (stored_in s p buf b)
      (Scanner.step (link limit) (pending_in s k m n p buf) b)
  follows_in Header k m n p o = header_follows limit st cap buf b k m (leb-true m 3 o)
  follows_in Len k m n p o =
      let h = (and-eq-true_iff (leb m 1) _).0 o in
      length_follows limit st cap buf b k m n byte (leb-true m 1 h.0)
      (leb-true n 255 ((and-eq-true_iff (leb n 255) _).0 h.1).0)
  follows_in Data k m n p o =
      let h = (and-eq-true_iff (in_range limit n) (ltb p n)).0 o in
      data_as limit st cap buf b k n h.0 limit-small p (ltb-true p n h.1)
      (omega (arith, ((range_true limit n).0 h.0).1)) (ltb (p + 1) n) refl
  follows_in Tail k m n p o =
      let h = (and-eq-true_iff (leb m 3) _).0 o in
      let r : in_range limit n ≡ true = ((and-eq-true_iff (in_range limit n) (eqb p n)).0 h.1).0 in
      tail_as limit st cap buf b k n r limit-small m (leb-true m 3 h.0)
      (omega (arith, ((range_true limit n).0 r).1)) (eqb b (get_or (tail k) m 0)) refl

  pub follows : (c : Scan) → well_formed limit c ≡ true
      → Follows limit (step_of limit c st b) st (stored c buf b) (Scanner.step (link limit) (pending_of c buf) b)
  unfolding well_formed step_of stored pending_of
  follows c o = follows_in c.state c.kind c.matched c.len c.pos o
