-- `load_writer::put_piece` meets its contract: the remainder chooses the piece, and its bytes are put. Assumes nothing.
use Rattle.std.proofs.Common.{◌∙◌, ap}
use Rattle.writer.specs.Put.{placed, put_in}
use Rattle.load_writer.proofs.Choosing.{cut_chosen}
use Rattle.load_writer.proofs.pieces.put_piece.Goals as goal

pub returns-in-2-clause-told : goal.returns-in-2-clause-told
returns-in-2-clause-told c =
    let d = c.draw.ensures in
    c.put-in-2.ensures.told
    ∙ ap (placed c.args.out.now c.args.at) (cut_chosen _ d.drawn d.holds c.in-2.is c.draw_report-in-2.ensures.drawn)

pub returns-in-2-clause-left : goal.returns-in-2-clause-left
returns-in-2-clause-left c =
    let d = c.draw.ensures in
    c.put-in-2.ensures.left
    ∙ ap (put_in c.args.out.now c.args.at) (cut_chosen _ d.drawn d.holds c.in-2.is c.draw_report-in-2.ensures.drawn)
