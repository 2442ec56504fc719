-- What a parser's type says of it: its buffer has 24 bytes and no counter is past its max. So demand 3 holds
-- from it, and from what a reset leaves of it. Assumes nothing.
use mathlib.Core.Path.{◌≡◌}
use mathlib.Core.List.{[]}
use Prim.Native.Nat.{◌≤◌}
use lib.ListN.{length}
use Rattle.wire.specs.Counter.{counter_max}
use Rattle.ld2450_parser.specs.Stream.{Counter, frames, resyncs, dropped}
use Rattle.ld2450_parser.specs.Feed.{reset_of}
use Rattle.ld2450_parser.specs.Engine.{counter_in}
use Rattle.ld2450_parser.specs.Claims.{FromHere, FromAny, Determined, ResetFirst}
use Rattle.ld2450_parser.specs.declared.Parser.{Parser}
use Rattle.ld2450_parser.proofs.OneByte.{Valid}
use Rattle.ld2450_parser.proofs.Demand.{from_any, reset_claims}

module _ (p : Parser) (room : length p.buf ≡ 24) (f : p.stats.frames ≤ counter_max) (r : p.stats.resyncs ≤ counter_max)
    (d : p.stats.dropped ≤ counter_max) where
  capped : (k : Counter) → counter_in k p.stats ≤ counter_max
  capped frames = f
  capped resyncs = r
  capped dropped = d

  valid : Valid p
  valid = record { room = room; capped = capped }

  pub known_any : FromAny p
  known_any = from_any p valid

  pub known_reset : record {
    fulfilled : FromHere (reset_of p);
    determined : Determined [] (reset_of p);
    first : ResetFirst p (reset_of p);
  }
  known_reset =
      let x = reset_claims p valid in
      record { fulfilled = x.0; determined = x.1.0; first = x.1.1 }
