-- `counting::feed_all` meets its contract. The loop's invariant is `Rest`: the remaining bytes, fed one by one from
-- here, leave what all of them leave. The measure is their number. The parser's type says what demand 3 asks of it.
use mathlib.Core.Path.{◌≡◌}
use Prim.Native.Nat.{◌<◌}
use borrow.Author.Rules.{rules}
use native.Mathlib.Omega.{arith}
use lib.ListN.{length}
use Rattle.wire.specs.Bytes.{Bytes}
use Rattle.wire.proofs.Bytes.{bytes_at}
use Rattle.parser.proofs.Known.{known_any}
use Rattle.counting.proofs.Rest.{rest_start, rest_smaller, rest_end, rest_further}
use Rattle.counting.proofs.Line.{fed_all}
use Rattle.counting.proofs.feed_all.Goals as goal

pub loop-rest-init : goal.loop-rest-init
loop-rest-init c = rest_start _ _ (record {
  room = omega arith;
  capped = record { frames = omega arith; resyncs = omega arith; dropped = omega arith; malformed = omega arith };
}) (bytes_at _ (λ j l. omega (arith, c.type_inv.bytes j)))

pub slice_bounds-rest-count : goal.slice_bounds-rest-count
slice_bounds-rest-count c =
    let some : 0 < length c.loop-rest.rest.now = search rules in
    (rest_further _ _ _ _ c.loop-rest.invariant some _ _ c.feed_slice-taken.ensures.fed).1

pub slice_bounds-rest-start : goal.slice_bounds-rest-start
slice_bounds-rest-start c =
    let some : 0 < length c.loop-rest.rest.now = search rules in
    let inside = (rest_further _ _ _ _ c.loop-rest.invariant some _ _ c.feed_slice-taken.ensures.fed).1 in
    search rules

pub loop-rest-smaller : goal.loop-rest-smaller
loop-rest-smaller c =
    let some : 0 < length c.loop-rest.rest.now = search rules in
    let f = rest_further _ _ _ _ c.loop-rest.invariant some _ _ c.feed_slice-taken.ensures.fed in
    rest_smaller _ _ f.0 f.1

-- After the slice feed: the parser there was fed the remaining bytes, and the invariant holds again.
pub loop-rest-preserved : goal.loop-rest-preserved
loop-rest-preserved c =
    let some : 0 < length c.loop-rest.rest.now = search rules in
    (rest_further _ _ _ _ c.loop-rest.invariant some _ _ c.feed_slice-taken.ensures.fed).2

pub returns : goal.returns
returns c =
    let p = c.args.parser in
    let bytes = c.args.bytes.now in
    let none : length c.loop-rest.rest.now ≡ 0 = search rules in
    let e = rest_end _ _ _ _ c.loop-rest.invariant none in
    let all_bytes : Bytes bytes = bytes_at bytes (λ j l. omega (arith, c.type_inv.bytes j)) in
    let from = known_any p (omega arith) (omega arith) (omega arith) (omega arith) (omega arith) in
    record { fed = e; bytes = all_bytes; counted = rw e (fed_all _ _ from.fulfilled bytes all_bytes) }
