-- `replay_io::input::next_case` meets its contract: the unused bytes hold a whole case or one too long, or they are
-- moved to the front, and more are read after them.
use mathlib.Core.Path.{sym, ap, ◌∙◌}
use mathlib.Core.List.{List, ◌++◌}
use Prim.Native.Nat.{ℕ, ◌-◌}
use lib.ListN.{take, drop}
use Rattle.replay_io.proofs.Cases.{unused_here, next_here, next_tested, next_still, next-front, grown_unread}
use Rattle.replay_io.proofs.input.next_case.Goals as goal

pub returns-then-is_decided : goal.returns-then-is_decided
returns-then-is_decided g c =
    let b = c.args.input.now in
    let x = c.args.case in
    -- What is at the front of the unused bytes, and the test of it.
    let here = next_here b x _ _ c.min-read.ensures c.min-start.ensures _ c.next_at-next.ensures.found in
    let tested = next_tested b x _ _ c.is_decided.ensures.tested here in
    record { found = next_still b x _ (sym tested ∙ c.if-is_decided.true) here }

pub returns : goal.returns
returns g c =
    let b = c.args.input.now in
    let x = c.args.case in
    let here = next_here b x _ _ c.min-read.ensures c.min-start.ensures _ c.next_at-next.ensures.found in
    let tested = next_tested b x _ _ c.is_decided.ensures.tested here in
    let k = c.keep-kept.result in
    let b' = c.fill-end.new.input in
    let more = take (c.fill-end.result - k) (drop k b') in
    let kept = c.keep-kept.ensures.moved ∙ unused_here b x _ _ c.min-read.ensures c.min-start.ensures in
    let test = sym tested ∙ c.if-is_decided.false in
    record {
      found = next-front b x b' _ _ more test c.fill-end.ensures.grown.within
          c.next_at.ensures.found (grown_unread c.fill-end.ensures.grown ∙ ap (λ (s : List ℕ). s ++ more) kept);
    }
