-- `ld2450::held_in` meets its contract: the string is a frame exactly if each part comes off. Assumes nothing.
use Rattle.ld2450.proofs.Frames.{header_off, tail_off, whole_held}
use Rattle.ld2450.proofs.held_in.Goals as goal

pub returns-in_err-strip_prefix : goal.returns-in_err-strip_prefix
returns-in_err-strip_prefix c =
    record { found = rw c.from_residual.ensures (header_off _ c.in_err-strip_prefix.ensures.cases) }

pub returns-in_err-strip_suffix : goal.returns-in_err-strip_suffix
returns-in_err-strip_suffix c =
    let rest = c.in_ok-strip_prefix.ensures.cases in
    record {
      found = rw c.from_residual-in_err-strip_suffix.ensures
          (tail_off _ _ rest.1 c.in_err-strip_suffix.ensures.cases);
    }

pub returns : goal.returns
returns c =
    let rest = c.in_ok-strip_prefix.ensures.cases in
    let held = c.in_ok-strip_suffix.ensures.cases in
    record { found = whole_held _ _ rest.1 _ held.1 _ rest.0 held.0 c.as_array.ensures.cases }
