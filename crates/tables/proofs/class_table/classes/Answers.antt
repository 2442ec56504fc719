-- `tables::classes` meets its contract: the table passes the test of its rule, which is computed. Assumes nothing.
use mathlib.Core.Path.{refl}
use Rattle.tables.specs.Table.{class_of}
use Rattle.tables.proofs.Rules.{classes_tested}
use Rattle.tables.proofs.Matched.{one_each}
use Rattle.tables.proofs.class_table.classes.Goals as goal

pub returns : goal.returns
unfolding class_of
returns c = let entries = classes_tested _ refl in
    record { entries = entries; each = one_each _ entries }
