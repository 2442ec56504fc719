-- The rows of the table engine hold: what a row says is what is computed.
use mathlib.Core.Path.{◌≡◌, refl, ap}
use mathlib.Core.List.{List, map}
use Prim.Native.Nat.{ℕ}
use Rattle.wire.specs.Counter.{bumped}
use Rattle.scan.specs.Start.{abandoned, start_of}
use Rattle.scan.specs.declared.stats.Stepped.{Stepped}
use Rattle.step.specs.Step.{step_of}
use Rattle.tables.specs.Table.{class_of}
use Rattle.feed.specs.States.{in_state}
use Rattle.parser.specs.Feed.{no_stats}
use Rattle.cases.specs.Walk.{Walk, walked, table_step, first_step, steps_by, stats_by, WalkHolds}
use Rattle.cases.specs.Walks.{walks}
use Rattle.cases.specs.Claims.{AllWalk}
use Rattle.cases.proofs.Agree.{rows_hold}

-- A walk's states, counters and steps by the tables, as computed and as the row or the first engine says.
pub record Walked : Type 0 where
  pub states : List ℕ
  pub resyncs : ℕ
  pub dropped : ℕ
  pub steps : List Stepped

abbrev pub passed : Walk → Walked
passed r =
    let start = in_state r.state r.len in
    let counted = stats_by table_step start no_stats r.bytes in
    record {
      states = walked r.state r.bytes;
      resyncs = counted.resyncs;
      dropped = counted.dropped;
      steps = steps_by table_step start no_stats r.bytes;
    }

abbrev pub meant : Walk → Walked
meant r = record {
  states = r.states;
  resyncs = r.resyncs;
  dropped = r.dropped;
  steps = steps_by first_step (in_state r.state r.len) no_stats r.bytes;
}

pub walks_computed : map passed walks ≡ map meant walks
unfolding class_of abandoned start_of step_of bumped
walks_computed = refl

pub walk_holds : (r : Walk) → passed r ≡ meant r → WalkHolds r
walk_holds r e = record {
  passed = ap (λ (x : Walked). x.states) e;
  resynced = ap (λ (x : Walked). x.resyncs) e;
  lost = ap (λ (x : Walked). x.dropped) e;
  same = ap (λ (x : Walked). x.steps) e;
}

pub all_walk : AllWalk
all_walk = rows_hold passed meant (λ (r : Walk). r) WalkHolds walk_holds walks walks_computed
