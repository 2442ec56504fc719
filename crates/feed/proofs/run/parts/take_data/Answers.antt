-- `feed::parts::take_data` meets its contract: the data bytes that came are copied. Assumes nothing.
use borrow.Author.Rules.{rules}
use mathlib.Core.Path.{◌≡◌}
use mathlib.Core.List.{List}
use mathlib.Core.Bool.{true}
use Prim.Native.Nat.{ℕ, ◌-◌, ◌≤◌, ◌<◌, min}
use native.Mathlib.Numerals.{add-one}
use native.Mathlib.Omega.{arith}
use lib.ListN.{length, drop}
use lib.Seq.{paste}
use Rattle.stream.specs.Length.{link_limit}
use Rattle.step.specs.Phase.{AtState}
use Rattle.scan.specs.Scan.{well_formed}
use Rattle.scan.specs.declared.State.TheVariants.{Data}
use Rattle.scan.specs.declared.Scan.{Scan}
use Rattle.feed.proofs.Copies.{min_due, pasted_next, AllCopied, copied_last, copied_whole}
use Rattle.feed.proofs.run.parts.take_data.Goals as goal

-- Where the data begin that are due.
start : (a : Scan) (b : List ℕ) (f : ℕ) → (well_formed link_limit a ≡ true) × (f < length b) → a.state ≡ Data
    → AtState link_limit Data a b f
start a b f r e = record { order = r.0; state = e; inside = r.1 }

pub loop-j-preserved : goal.loop-j-preserved
loop-j-preserved c =
    let e : c.args.scan.state ≡ Data = search rules in
    let h = min_due link_limit _ _ _ _ (start c.args.scan c.args.bytes.now c.args.from c.requires e) c.min-n.ensures in
    rw add-one (pasted_next _ _ _ _ _ c.loop-j.j c.loop-j.invariant (omega (arith, h.due, h.few, c.loop-j-test.true))
    (omega (arith, h.there, c.loop-j-test.true)))

-- All data bytes that are due, or as many as came, are copied.
all_copied : (a : Scan) (bs buf d : List ℕ) (f n j : ℕ) → AtState link_limit Data a bs f → link_limit ≤ length buf
    → n ≡ min (a.len - a.pos) (length bs - f) → j ≡ n → d ≡ paste buf a.pos (drop f bs) j
    → AllCopied link_limit a buf bs f d n
all_copied a bs buf d f n j at room few all e =
    record { start = at; room = room; fewest = few; copied = rw (← all) e }

pub returns-then-taken-bytes : goal.returns-then-taken-bytes
returns-then-taken-bytes c =
    let e : c.args.scan.state ≡ Data = search rules in
    let at = start c.args.scan c.args.bytes.now c.args.from c.requires e in
    let all = all_copied _ _ _ _ _ _ c.loop-j.j at (omega arith) c.min-n.ensures (omega arith) c.loop-j.invariant in
    record {
      copied = rw (
        c.taking-then-taken-bytes.ensures.scanned,
        c.continued-then-taken-bytes.ensures.stepped,
        c.in_data.ensures.made,
      )
          (copied_last all c.args.stats c.if-taken-bytes.true);
    }

pub returns-else-taken-bytes : goal.returns-else-taken-bytes
returns-else-taken-bytes c =
    let e : c.args.scan.state ≡ Data = search rules in
    let at = start c.args.scan c.args.bytes.now c.args.from c.requires e in
    let all = all_copied _ _ _ _ _ _ c.loop-j.j at (omega arith) c.min-n.ensures (omega arith) c.loop-j.invariant in
    record {
      copied = rw (
        c.taking-else-taken-bytes.ensures.scanned,
        c.continued-else-taken-bytes.ensures.stepped,
        c.in_tail.ensures.made,
      )
          (copied_whole all c.args.stats c.if-taken-bytes.false);
    }
