-- The theorems: every row of the table holds, and every walk. src/lib.rt pins them.
--   table     streams, runs of calls and commands of documents 01 and 02, and sessions and loads of document 02
--   AllHold   each row of the table holds
--   AllWalk   each walk of the table engine holds
use Rattle.std.specs.Prelude.{List, ◌++◌, map}
use Rattle.wire.specs.Bytes.{Every}
use Rattle.cases.specs.Row.{Row, stream, run, command, talk, load, Holds}
use Rattle.cases.specs.Streams.{streams}
use Rattle.cases.specs.Runs.{runs}
use Rattle.cases.specs.Commands.{commands}
use Rattle.cases.specs.Talks.{talks}
use Rattle.cases.specs.Loads.{loads}
use Rattle.cases.specs.Walk.{WalkHolds}
use Rattle.cases.specs.Walks.{walks}

abbrev pub table : List Row
table = map stream streams ++ (map run runs ++ (map command commands ++ (map talk talks ++ map load loads)))

abbrev pub AllHold : Type 0
AllHold = Every Holds table

abbrev pub AllWalk : Type 0
AllWalk = Every WalkHolds walks
