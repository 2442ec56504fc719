-- `load_writer::fill` meets its contract. The loop's invariant: the pieces so far are put, and the rest of the load is
-- still to come. The measure is the room that is left, since every piece has a byte. Assumes nothing.
use Rattle.load_writer.proofs.Filling.{filling_start, filling_next, filling_less, filling_ends}
use Rattle.load_writer.proofs.fill.Goals as goal

pub loop-end-init : goal.loop-end-init
loop-end-init c = filling_start _ c.new-draws.ensures.holds _

pub loop-end-smaller : goal.loop-end-smaller
loop-end-smaller c = let put = c.put_piece.ensures in filling_less c.loop-end.invariant put.told put.left c.in-Some.is

pub loop-end-preserved : goal.loop-end-preserved
loop-end-preserved c =
    let put = c.put_piece.ensures in filling_next c.loop-end.invariant put.told put.left put.holds c.in-Some.is

pub returns : goal.returns
returns c = let put = c.put_piece.ensures in filling_ends c.loop-end.invariant put.told put.left c.in_default.is
