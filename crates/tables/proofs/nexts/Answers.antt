-- `tables::nexts` meets its contract: the table passes the test of its rule, which is computed. Assumes nothing.
use mathlib.Core.Path.{refl}
use Rattle.tables.proofs.Rules.{nexts_tested}
use Rattle.tables.proofs.Matched.{matching}
use Rattle.tables.proofs.nexts.Goals as goal

pub returns : goal.returns
returns c = let entries = nexts_tested _ refl in
    record { entries = entries; matching = matching _ entries }
