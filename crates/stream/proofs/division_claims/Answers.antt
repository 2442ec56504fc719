-- `stream::division_claims`: the theory of divisions, for the link. Assumes nothing.
use mathlib.Core.List.{[]}
use Rattle.framing.proofs.Division.{division_spelled, division_length}
use Rattle.framing.proofs.View.{nothing_waits, rest_waits}
use Rattle.framing.proofs.Scanned.{divided}
use Rattle.framing.proofs.Append.{division_append, division_cut, total-append}
use Rattle.framing.proofs.Events.{event}
use Rattle.framing.proofs.Resyncs.{resynced_bound, resynced_reached}
use Rattle.stream.specs.Claims.{DividesOnce, DivisionSpelled, DivisionLength, UnfinishedOpen, DivisionAppend}
use Rattle.stream.specs.Claims.{TotalAppend, EndsForGood, ResyncsBound, ResyncsReached}
use Rattle.stream.proofs.Decoding.{counting}
use Rattle.stream.proofs.Link.{link}
use Rattle.stream.proofs.Repeated.{opens_once, once_not_whole, not_twice}
use Rattle.stream.proofs.division_claims.Goals as goal

once : DividesOnce
unfolding DividesOnce
once limit s = divided (link limit) s

spells : DivisionSpelled
unfolding DivisionSpelled
spells limit s ps d = division_spelled d

lengths : DivisionLength
unfolding DivisionLength
lengths limit s ps d = division_length d

waits : UnfinishedOpen
unfolding UnfinishedOpen
waits limit s ps d =
    let F = link limit in rw (division_cut F d) (rest_waits F [] s (nothing_waits F))

appends : DivisionAppend
unfolding DivisionAppend
appends limit s t ps qs d e = division_append (link limit) t d e

totals : TotalAppend
unfolding TotalAppend
totals limit k s t ps qs rs d e r = total-append (link limit) counting k t d e r

ends : EndsForGood
unfolding EndsForGood
ends limit s c t u ps qs d e f x = (event (link limit) s c u e f).1 ((event (link limit) s c t d f).0 x)

bound : ResyncsBound
unfolding ResyncsBound
bound limit s ps d = resynced_bound (link limit) d

reached : ResyncsReached
unfolding ResyncsReached
reached limit m ps d =
    resynced_reached (link limit) 0xF4 (opens_once limit) (once_not_whole limit) (not_twice limit) m d

pub returns : goal.returns
returns c = record { once = once; spelled = spells; length = lengths; unfinished = waits; append = appends; total = totals; ends = ends; bound = bound; reached = reached }
