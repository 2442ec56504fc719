-- What a parser's type says of it: its buffer has 64 bytes and no counter is above its maximum. So demand 3 holds from
-- every parser, and from what a reset leaves of it. Assumes nothing.
use mathlib.Core.Path.{◌≡◌}
use mathlib.Core.List.{[]}
use Prim.Native.Nat.{◌≤◌}
use native.Mathlib.Omega.{arith}
use lib.ListN.{length}
use Rattle.wire.specs.Counter.{counter_max}
use Rattle.stream.specs.Length.{link_limit}
use Rattle.parser.specs.Feed.{reset_of}
use Rattle.parser.specs.Claims.{FromHere, FromAny, Determined, ResetFirst}
use Rattle.parser.specs.declared.Parser.{Parser}
use Rattle.parser.proofs.Feeding.{Valid}
use Rattle.parser.proofs.Demand.{from_any, reset_claims}

module _ (p : Parser) (room : length p.buf ≡ 64) (f : p.stats.frames ≤ counter_max) (r : p.stats.resyncs ≤ counter_max)
    (d : p.stats.dropped ≤ counter_max) (m : p.stats.malformed ≤ counter_max) where
  valid : Valid link_limit p
  valid = record {
    room = omega arith;
    capped = record { frames = f; resyncs = r; dropped = d; malformed = m };
  }

  pub known_any : FromAny p
  known_any = from_any p valid

  pub known_reset : record {
    fulfilled : FromHere (reset_of p);
    determined : Determined [] (reset_of p);
    first : ResetFirst p (reset_of p);
  }
  known_reset =
      let x = reset_claims p valid in
      record { fulfilled = x.0; determined = x.1.0; first = x.1.1 }
