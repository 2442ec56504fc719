-- What a row of the table engine says, and when it holds.
--   Walk              bytes from a matching state, in a tail that of a frame with `len` data bytes; the states passed,
--                     and the counters afterwards
--   walked s bs       the states that the two tables pass
--   matching_state c   the matching state of the scan c, 16 if it has none; matching_in, by its fields
--   table_step         the step by the tables; first_step, by the first engine
--   steps_by f         the steps by f; stats_by f, the counters afterwards
--   WalkHolds r       the row holds by the tables, and both engines take the same steps
use Rattle.std.specs.Prelude.{◌≡◌, List, [], ◌∷◌, ℕ}
use Rattle.wire.specs.declared.Kind.{Kind}
use Rattle.stream.specs.Length.{link_limit}
use Rattle.scan.specs.Scan.{unfinished_at}
use Rattle.scan.specs.declared.State.{State}
use Rattle.scan.specs.declared.State.TheVariants.{Header, Len, Data, Tail}
use Rattle.scan.specs.declared.Scan.{Scan}
use Rattle.scan.specs.declared.stats.Stats.{Stats}
use Rattle.scan.specs.declared.stats.Stepped.{Stepped}
use Rattle.step.specs.Step.{step_of}
use Rattle.tables.specs.Table.{class_of, header_state, tail_state, next_of}
use Rattle.feed.specs.States.{in_state, step_to}
use Rattle.parser.specs.Feed.{no_stats}

pub record Walk : Type 0 where
  pub state : ℕ
  pub len : ℕ
  pub bytes : List ℕ
  pub states : List ℕ
  pub resyncs : ℕ
  pub dropped : ℕ

abbrev pub walked : ℕ → List ℕ → List ℕ
walked s [] = []
walked s (b ∷ bs) =
    let next = next_of s (class_of b) in
    next ∷ walked next bs

abbrev pub matching_in : State → Kind → ℕ → ℕ
matching_in Header k m = header_state k m
matching_in Len k m = 16
matching_in Data k m = 16
matching_in Tail k m = tail_state k m

abbrev pub matching_state : Scan → ℕ
matching_state c = matching_in c.state c.kind c.matched

abbrev pub table_step : Scan → Stats → ℕ → Stepped
table_step c st b = step_to (unfinished_at c) c.len st (next_of (matching_state c) (class_of b))

abbrev pub first_step : Scan → Stats → ℕ → Stepped
first_step c st b = step_of link_limit c st b

abbrev pub steps_by : (Scan → Stats → ℕ → Stepped) → Scan → Stats → List ℕ → List Stepped
steps_by f c st [] = []
steps_by f c st (b ∷ bs) =
    let r = f c st b in
    r ∷ steps_by f r.scan r.stats bs

abbrev pub stats_by : (Scan → Stats → ℕ → Stepped) → Scan → Stats → List ℕ → Stats
stats_by f c st [] = st
stats_by f c st (b ∷ bs) =
    let r = f c st b in
    stats_by f r.scan r.stats bs

pub record WalkHolds (r : Walk) : Type 0 where
  pub passed : walked r.state r.bytes ≡ r.states
  pub resynced : (stats_by table_step (in_state r.state r.len) no_stats r.bytes).resyncs ≡ r.resyncs
  pub lost : (stats_by table_step (in_state r.state r.len) no_stats r.bytes).dropped ≡ r.dropped
  pub same : steps_by table_step (in_state r.state r.len) no_stats r.bytes
      ≡ steps_by first_step (in_state r.state r.len) no_stats r.bytes
