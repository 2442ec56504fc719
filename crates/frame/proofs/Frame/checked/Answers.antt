-- `frame::Frame::checked`: the data end after they begin, and within the bytes.
use mathlib.Core.Path.{sym}
use native.Mathlib.Omega.{arith}
use Rattle.frame.proofs.Opened.{opened_part}
use Rattle.frame.proofs.Frame.checked.Goals as goal

pub slice_bounds-decode_at-count : goal.slice_bounds-decode_at-count
slice_bounds-decode_at-count c = (opened_part _ _ (sym c.in_ok-kind.ensures.opened)).start

pub slice_bounds-decode_at-start : goal.slice_bounds-decode_at-start
slice_bounds-decode_at-start c = omega (arith, (opened_part _ _ (sym c.in_ok-kind.ensures.opened)).start)

pub slice_bounds-decode_at-end : goal.slice_bounds-decode_at-end
slice_bounds-decode_at-end c = omega (arith, (opened_part _ _ (sym c.in_ok-kind.ensures.opened)).finish)
