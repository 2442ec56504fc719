-- `engine::call_claims` meets its contract: `any` directly, the rest by Runs.antt and Stretches.antt. Assumes nothing.
use Rattle.engine.proofs.Runs.{history_append, final_append}
use Rattle.engine.proofs.Stretches.{stretches_joined, stretch_of}
use Rattle.engine.specs.Claims.{AnyCall, HistoryAppend, StretchesJoined, StretchOfCall}
use Rattle.engine.proofs.call_claims.Goals as goal

any_call : AnyCall
unfolding AnyCall
any_call = (λ b h. (h, tt), λ bs h. (h, tt), tt, λ z. z)

appended : HistoryAppend
unfolding HistoryAppend
appended M s cs ds = (history_append M s cs ds, final_append M s cs ds)

stretches_all : StretchesJoined
unfolding StretchesJoined
stretches_all p ds = stretches_joined ds p

stretch_one : StretchOfCall
unfolding StretchOfCall
stretch_one p before d after h = stretch_of before p d after h

pub returns : goal.returns
returns c = record { any = any_call; append = appended; joined = stretches_all; stretch = stretch_one }
