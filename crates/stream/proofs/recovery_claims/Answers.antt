-- `stream::recovery_claims` pins what Recovery, Regained and Sooner prove. The fourth claim is proved from the
-- second, the sixth from the fifth. Assumes nothing.
use native.Mathlib.Omega.{arith}
use Rattle.stream.specs.Claims.{AnyClean, AnyRecovers, AnyFound, AnyRegains, NotSooner, NotSoonerAt244}
use Rattle.stream.proofs.Recovery.{recovers, found_in_stretch}
use Rattle.stream.proofs.Regained.{sendable_clean, regains}
use Rattle.stream.proofs.Sooner.{not_sooner}
use Rattle.stream.proofs.recovery_claims.Goals as goal

any_clean : AnyClean
unfolding AnyClean
any_clean k d low high plain = (sendable_clean 54 (omega arith) (k, d) ((low, high), plain), ((low, high), plain))

any_recovers : AnyRecovers
unfolding AnyRecovers
any_recovers limit small E p s fulfils = recovers limit small E p s fulfils

any_found : AnyFound
unfolding AnyFound
any_found limit small E p s = found_in_stretch limit small E p s

any_regains : AnyRegains
unfolding AnyRecovers AnyRegains
any_regains limit small E p s fulfils = regains limit small E p s (any_recovers limit small E p s fulfils)

any_lost : NotSooner
unfolding NotSooner
any_lost limit large small = not_sooner limit large small

lost_at_244 : NotSoonerAt244
unfolding NotSooner NotSoonerAt244
lost_at_244 = any_lost 244 (omega arith) (omega arith)

pub returns : goal.returns
returns c = record { clean = any_clean; recovers = any_recovers; found = any_found; regains = any_regains; not_sooner = any_lost; at_244 = lost_at_244 }
