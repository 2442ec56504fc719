-- Demand 3 from any parser, and what follows from it: the laws of the crate `engine`, for this parser.
use mathlib.Core.Path.{◌≡◌, refl, sym, ap, ◌∙◌}
use mathlib.Core.List.{[]}
use Prim.Native.Nat.{ℕ, ◌≤◌, ◌<◌}
use native.Mathlib.Omega.{arith}
use Rattle.wire.specs.Counter.{counter_max}
use Rattle.engine.proofs.Claimed.{FromNothing, claimed, from_nothing}
use Rattle.ld2450_parser.specs.Stream.{Counter, frames, resyncs, dropped}
use Rattle.ld2450_parser.specs.Feed.{or_reset, fresh, feed_of, feed_slice_of, reset_of}
use Rattle.ld2450_parser.specs.Engine.{counter_in, pending_by, engine}
use Rattle.ld2450_parser.specs.Claims.{FromHere, Determined, Stands, FromAny, Accounted, ResetFirst, Receives}
use Rattle.ld2450_parser.specs.declared.Parser.{Parser}
use Rattle.ld2450_parser.proofs.Frames.{link}
use Rattle.ld2450_parser.proofs.Decoding.{decoding, counting}
use Rattle.ld2450_parser.proofs.Ranges.{or_reset_same, or_reset_out}
use Rattle.ld2450_parser.proofs.OneByte.{Valid}
use Rattle.ld2450_parser.proofs.Engines.{lawful, reset_nothing}
use Rattle.ld2450_parser.proofs.Sent.{receives}

stands : (x : Parser) → Stands x (pending_by x)
stands x = record {
  out = λ o. rw (or_reset_out x.at o);
  inside = λ n. rw (or_reset_same x.at (omega arith));
}

-- From any parser, with its pending bytes.
pub from_any : (x : Parser) → Valid x → FromAny x
from_any x v =
    let c = claimed link decoding counting engine lawful x v in
    record {
      stands = stands x;
      fulfilled = c.demand;
      determined = c.determined;
      frames = c.counted frames (λ q. refl);
      empty = c.empty;
      resumed = λ calls more h g y d e st. c.resumes calls more h g y d e (λ k. ap (counter_in k) (sym st));
      received = receives (pending_by x) x v c.demand;
    }

-- Nothing is pending in a parser just reset, nor in a fresh one.
reset_from : (p : Parser) → Valid (reset_of p) → FromNothing link decoding counting engine (reset_of p)
reset_from p v = from_nothing link decoding counting engine lawful (reset_of p) v (reset_nothing p)

reset_valid : (p : Parser) → Valid p → Valid (reset_of p)
reset_valid p v = record { room = v.room; capped = v.capped }

fresh_valid : Valid fresh
fresh_valid = record { room = refl; capped = low }
  where
    low : (k : Counter) → counter_in k fresh.stats ≤ counter_max
    low frames = omega arith
    low resyncs = omega arith
    low dropped = omega arith

pub fresh_claims : FromHere fresh × (Accounted fresh × (Determined [] fresh × Receives [] fresh))
fresh_claims =
    let c = reset_from fresh fresh_valid in
    (c.demand, (c.accounted dropped (λ q. refl) refl, (c.determined, receives [] fresh fresh_valid c.demand)))

-- A parser out of range is fed as if it were reset first.
or_reset_as : (n : ℕ) → 29 < n → or_reset n ≡ or_reset 0
or_reset_as n o = or_reset_out n o ∙ sym (or_reset_same 0 (omega arith))

reset_first : (p : Parser) → ResetFirst p (reset_of p)
unfolding feed_of feed_slice_of
reset_first p = record {
  of_byte = λ o b. rw (or_reset_as p.at o);
  of_slice = λ o bs. rw (or_reset_as p.at o);
}

pub reset_claims : (p : Parser) → Valid p
    → FromHere (reset_of p) × (Determined [] (reset_of p) × ResetFirst p (reset_of p))
reset_claims p v =
    let c = reset_from p (reset_valid p v) in
    (c.demand, (c.determined, reset_first p))
