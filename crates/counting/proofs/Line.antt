-- By demand 3, the numbers of a parser fed bytes one by one are those of their division; from fresh they are a `Line`.
use mathlib.Core.Path.{◌∙◌, ap}
use mathlib.Core.List.{List, [], ◌++◌}
use Prim.Native.Nat.{ℕ}
use native.Mathlib.Omega.{arith}
use lib.ListN.{length}
use Rattle.wire.specs.Bytes.{Bytes}
use Rattle.stream.specs.Length.{link_limit}
use Rattle.framing.specs.Piece.{Piece}
use Rattle.framing.specs.Division.{cut}
use Rattle.framing.specs.Tally.{sum}
use Rattle.engine.specs.Calls.{feeds}
use Rattle.engine.specs.Fulfilled.{sum_over}
use Rattle.engine.proofs.Feeds.{feeds_bytes, feeds_so_far, feeds_stretch}
use Rattle.stream.specs.Deliver.{frames, resyncs, dropped, malformed, adds}
use Rattle.parser.specs.Feed.{fresh}
use Rattle.parser.specs.Engine.{engine}
use Rattle.parser.specs.Claims.{left, Demand3, FromHere}
use Rattle.parser.specs.declared.Parser.{Parser}
use Rattle.counting.specs.Counts.{counts_of}
use Rattle.counting.specs.Counted.{FedAll, Line}
use Rattle.counting.specs.Reached.{Reached}

pub fed_all : (p : List ℕ) (x : Parser) → Demand3 p x → (s : List ℕ) → Bytes s → FedAll p x s (left x (feeds s))
fed_all p x demand s h =
    let y = demand (feeds s) (feeds_bytes s h) in
    let pieces : List ℕ → List Piece = λ t. (y.divide t).pieces in
    let last = feeds_so_far (engine link_limit) s p x in
    let only = feeds_stretch (engine link_limit) s p x in
    record {
      pieces = pieces (p ++ s);
      division = (y.divide (p ++ s)).division;
      counted = λ k. omega (arith, y.counted k, ap (sum_over (λ t. sum (adds k) (pieces t))) only);
      pending = y.pending ∙ ap (λ (t : List ℕ). cut (pieces t)) last;
      unfinished = y.unfinished ∙ ap (λ (t : List ℕ). length (cut (pieces t))) last;
    }

pub line_of : FromHere fresh → (q : Parser) → Reached fresh q → Line (counts_of q)
line_of demand q r =
    let x = fed_all [] fresh demand r.bytes r.are_bytes in
    record {
      bytes = r.bytes;
      are_bytes = r.are_bytes;
      counted = rw r.fed (record {
        pieces = x.pieces;
        division = x.division;
        frames_are = omega (arith, x.counted frames);
        resyncs_are = omega (arith, x.counted resyncs);
        dropped_are = omega (arith, x.counted dropped);
        malformed_are = omega (arith, x.counted malformed);
        unfinished_is = x.unfinished;
      });
    }
