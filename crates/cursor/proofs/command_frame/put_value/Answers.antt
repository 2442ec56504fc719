-- `cursor::put_value` meets its contract: if the frame fits, the cursor writes all of it. Assumes nothing.
use Rattle.std.proofs.Common.{rules, arith}
use Rattle.cursor.proofs.CommandFrame.{made_short, made_whole}
use Rattle.cursor.proofs.command_frame.put_value.Goals as goal

pub returns-then-out-needed : goal.returns-then-out-needed
returns-then-out-needed c = made_short _ _ _ _ c.framed_len-needed.ensures.counted (omega arith)

pub returns : goal.returns
returns c =
    let size = c.framed_len-needed.ensures.counted in
    let made = c.new-cursor.ensures.made in
    made_whole _ _ _ _ size _ _ _ (omega arith) (search rules) made.1 c.frame.ensures.told (search rules)
