-- A slice fed does what its bytes do, fed one by one up to the first that ends a frame.
use mathlib.Core.Path.{◌≡◌, refl}
use mathlib.Core.List.{List, [], ◌∷◌}
use mathlib.Core.Option.{Option, none, some}
use Prim.Native.Nat.{ℕ, suc, ◌≤◌}
use Rattle.wire.specs.Bytes.{Bytes}
use Rattle.framing.proofs.Scanner as Scanner
use Rattle.engine.specs.Engine.{Sliced}
use Rattle.engine.proofs.Lawful.{answer_at, stop_if, feed_until}
use Rattle.ld2450_parser.specs.Stream.{Answer}
use Rattle.ld2450_parser.specs.Feed.{stepped, then_run, run_of, feed_of}
use Rattle.ld2450_parser.specs.Engine.{pending_by, engine}
use Rattle.ld2450_parser.specs.declared.Parser.{Parser}
use Rattle.ld2450_parser.specs.declared.Fed.{Fed}
use Rattle.ld2450_parser.specs.declared.Taken.{Taken}
use Rattle.ld2450_parser.proofs.Frames.{link}
use Rattle.ld2450_parser.proofs.Decoding.{decoding}
use Rattle.ld2450_parser.proofs.Ranges.{or_reset_same}
use Rattle.ld2450_parser.proofs.OneByte.{Valid, fed_range, fed_answer, fed_valid}

-- What a slice call gives back, as the crate `engine` has it.
abbrev pub slice_as : Fed Taken → Sliced Parser Answer
slice_as r = record { state = r.parser; told = r.answer.count; answer = r.answer.frame }

-- Every whole frame decodes, so a run stops where it delivers.
stop_as : (o : Option (List ℕ)) (p : Parser) (a : Answer) (rest : Fed Taken) → a ≡ answer_at decoding o
    → slice_as (then_run (record { parser = p; answer = a }) rest)
    ≡ stop_if o (record { state = p; told = 1; answer = a })
    (record { state = rest.parser; told = suc rest.answer.count; answer = rest.answer.frame })
stop_as none p a rest e = rw e
stop_as (some f) p a rest e = rw e

-- In range, feeding a byte is the step.
fed_step : (p : Parser) (b : ℕ) → p.at ≤ 29 → stepped p b ≡ feed_of p b
unfolding feed_of
fed_step p b u = rw (or_reset_same p.at u)

pub until : (bs : List ℕ) → Bytes bs → (p : Parser) → Valid p → p.at ≤ 29
    → slice_as (run_of p bs) ≡ feed_until link decoding engine p bs
unfolding run_of
until [] h p v u = refl
until (b ∷ bs) h p v u =
    let one = feed_of p b in
    let rest = until bs h.1 one.parser (fed_valid p b v) (fed_range p b v) in
    rw (fed_step p b u, ← rest) (stop_as (Scanner.step link (pending_by p) b).ended one.parser one.answer
    (run_of one.parser bs) (fed_answer p b v))
