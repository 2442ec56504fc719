-- `ld2450::read_targets` meets its contract: the targets are read from the bytes between header and tail.
-- Assumes nothing.
use mathlib.Core.Path.{refl}
use Rattle.ld2450.proofs.Frames.{read_told, read_shown, one_answer}
use Rattle.ld2450.proofs.FrameRound.{answer_writable}
use Rattle.ld2450.proofs.Printed.{examples}
use Rattle.ld2450.proofs.read_targets.Goals as goal

pub returns : goal.returns
returns c =
    let s = c.args.bytes.now in
    rw (c.ok_or.ensures.value, read_told s _ _ c.held_in.ensures.found c.map.ensures.cases) (record {
      parsed = refl;
      causes = read_shown s _ refl;
      alone = one_answer s;
      writable = answer_writable s;
      examples = examples;
    })
