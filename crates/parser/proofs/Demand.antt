-- Demand 3 from any parser, and what follows from it: the theory of the stream, for this engine.
use mathlib.Core.Path.{◌≡◌, refl, sym, ap, ◌∙◌}
use mathlib.Core.List.{List, []}
use mathlib.Core.Bool.{true}
use Prim.Native.Nat.{ℕ, ◌<◌}
use native.Mathlib.Omega.{arith}
use Rattle.stream.specs.Length.{link_limit}
use Rattle.engine.proofs.Claimed.{FromNothing, claimed, from_nothing}
use Rattle.stream.specs.Deliver.{dropped, frames}
use Rattle.stream.proofs.Link.{link}
use Rattle.stream.proofs.Decoding.{decoding, counting}
use Rattle.stream.specs.Recovery.{Recovers}
use Rattle.stream.proofs.Recovery.{recovers, found_in_stretch}
use Rattle.stream.proofs.Regained.{regains}
use Rattle.scan.specs.Scan.{hunting, well_formed, or_reset}
use Rattle.scan.specs.Stands.{OutOfRange, pending_of}
use Rattle.scan.specs.declared.Scan.{Scan}
use Rattle.scan.proofs.Orders.{or_reset_same}
use Rattle.scan.proofs.OrReset.{or_reset_right}
use Rattle.feed.specs.Moved.{moved_of, buf_of, slice_moved_of, slice_buf_of}
use Rattle.parser.specs.Feed.{fresh, feed_of, feed_slice_of, reset_of}
use Rattle.parser.specs.Engine.{counter_in, pending_by, engine}
use Rattle.parser.specs.Claims.{FromHere, Stands, FromAny, Accounted, Determined, ResetFirst}
use Rattle.parser.specs.declared.Parser.{Parser}
use Rattle.parser.proofs.Feeding.{Valid}
use Rattle.parser.proofs.Engines.{lawful, hunting_pending}

pub small : link_limit < 65536
small = omega arith

-- The pending bytes of a parser: none if a field is out of range, else those of its scan.
hunting_nothing : (buf : List ℕ) → pending_of hunting buf ≡ []
unfolding pending_of
hunting_nothing buf = refl

stands : (x : Parser) → Stands x (pending_by link_limit x)
stands x =
    let s = or_reset_right link_limit x.scan in
    record {
      out = λ o. ap (λ (c : Scan). pending_of c x.buf) (s.out o) ∙ hunting_nothing x.buf;
      inside = λ n. ap (λ (c : Scan). pending_of c x.buf) (s.inside n);
    }

-- The theory of the stream, for this engine.
pub from_any : (x : Parser) → Valid link_limit x → FromAny x
from_any x v =
    let c = claimed (link link_limit) decoding counting (engine link_limit) (lawful link_limit small) x v in
    let p = pending_by link_limit x in
    let again : Recovers link_limit (engine link_limit) p x =
    recovers link_limit (omega arith) (engine link_limit) p x c.demand in
    record {
      stands = stands x;
      fulfilled = c.demand;
      determined = c.determined;
      frames = c.counted frames (λ q. refl);
      empty = c.empty;
      resumed = λ calls more h g y d e st. c.resumes calls more h g y d e (λ k. ap (counter_in k) (sym st));
      recovers = again;
      found = found_in_stretch link_limit (omega arith) (engine link_limit) p x;
      regains = regains link_limit (omega arith) (engine link_limit) p x again;
    }

-- A parser just reset has nothing pending, and a fresh parser is the same as one just reset.
reset_from : (p : Parser) → Valid link_limit (reset_of p)
    → FromNothing (link link_limit) decoding counting (engine link_limit) (reset_of p)
reset_from p v = from_nothing (link link_limit) decoding counting (engine link_limit) (lawful link_limit small) (reset_of p)
    v (hunting_pending link_limit p)

reset_valid : (p : Parser) → Valid link_limit p → Valid link_limit (reset_of p)
reset_valid p v = record { room = v.room; capped = v.capped }

pub fresh_valid : Valid link_limit fresh
fresh_valid = record {
  room = omega arith;
  capped = record { frames = omega arith; resyncs = omega arith; dropped = omega arith; malformed = omega arith };
}

pub fresh_claims : FromHere fresh × (Accounted fresh × Determined [] fresh)
fresh_claims =
    let c = reset_from fresh fresh_valid in
    (c.demand, (c.accounted dropped (λ q. refl) refl, c.determined))

-- A parser out of range is fed like the parser that a reset leaves.
hunting_formed : well_formed link_limit hunting ≡ true
unfolding well_formed
hunting_formed = refl

or_reset_as : (c : Scan) → OutOfRange link_limit c → or_reset link_limit c ≡ or_reset link_limit hunting
or_reset_as c o = (or_reset_right link_limit c).out o ∙ sym (or_reset_same link_limit hunting hunting_formed)

reset_first : (p : Parser) → ResetFirst p (reset_of p)
unfolding feed_of feed_slice_of moved_of buf_of slice_moved_of slice_buf_of
reset_first p = record {
  of_byte = λ o b. rw (or_reset_as p.scan o);
  of_slice = λ o bs. rw (slice_buf_of, or_reset_as p.scan o);
}

pub reset_claims : (p : Parser) → Valid link_limit p
    → FromHere (reset_of p) × (Determined [] (reset_of p) × ResetFirst p (reset_of p))
reset_claims p v =
    let c = reset_from p (reset_valid p v) in
    (c.demand, (c.determined, reset_first p))
