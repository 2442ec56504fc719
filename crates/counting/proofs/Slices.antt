-- A slice feed leaves the parser that its first bytes leave, fed one by one: as many as it counts, and at least one
-- of a slice that has any.
--   First p bs r   this holds of r, the count and the parser that a slice feed of bs gave
use mathlib.Core.Path.{◌≡◌, refl, sym, subst}
use mathlib.Core.List.{List, [], ◌∷◌}
use mathlib.Core.Option.{Option, none, some}
use Prim.Native.Nat.{ℕ, suc, ◌≤◌, ◌<◌}
use native.Mathlib.Omega.{arith}
use lib.ListN.{length, take}
use Rattle.wire.specs.Bytes.{Bytes}
use Rattle.framing.proofs.Scanner.{step}
use Rattle.engine.specs.Calls.{feeds}
use Rattle.engine.specs.Engine.{Sliced}
use Rattle.engine.proofs.Lawful.{stop_if, feed_until}
use Rattle.stream.specs.Length.{link_limit}
use Rattle.stream.specs.Deliver.{Answer}
use Rattle.stream.proofs.Link.{link}
use Rattle.stream.proofs.Decoding.{decoding}
use Rattle.parser.specs.Feed.{feed_slice_of}
use Rattle.parser.specs.Engine.{pending_by, engine}
use Rattle.parser.specs.Claims.{left}
use Rattle.parser.specs.declared.Parser.{Parser}
use Rattle.parser.specs.declared.Fed.{Fed}
use Rattle.feed.specs.declared.feeding.Taken as Lent
use Rattle.parser.proofs.Feeding.{Valid}
use Rattle.parser.proofs.Engines.{lawful, slice_until}
use Rattle.parser.proofs.Demand.{small}

abbrev until : Parser → List ℕ → Sliced Parser Answer
until p bs = feed_until (link link_limit) decoding (engine link_limit) p bs

-- The count is within bs, and that many bytes of bs leave the state.
abbrev Taken : Parser → List ℕ → Sliced Parser Answer → Type 0
Taken p bs s = (s.told ≤ length bs) × (s.state ≡ left p (feeds (take s.told bs)))

-- The same with a byte b in front, whether or not b ended a frame.
stop_taken : (o : Option (List ℕ)) (p : Parser) (b : ℕ) (bs : List ℕ) (a : Answer) (s : Sliced Parser Answer)
    → let q = ((engine link_limit).feed p b).0 in Taken q bs s
    → let r = stop_if {R = Sliced Parser Answer} o (record { state = q; told = 1; answer = a })
    (record { state = s.state; told = suc s.told; answer = s.answer }) in (0 < r.told) × Taken p (b ∷ bs) r
stop_taken (some f) p b bs a s h = (omega arith, (omega arith, refl))
stop_taken none p b bs a s h = (omega arith, (omega (arith, h.0), h.1))

until_some : (p : Parser) (b : ℕ) (bs : List ℕ) → let q = ((engine link_limit).feed p b).0 in Taken q bs (until q bs)
    → let r = until p (b ∷ bs) in (0 < r.told) × Taken p (b ∷ bs) r
until_some p b bs h =
    let q = (engine link_limit).feed p b in
    stop_taken (step (link link_limit) (pending_by link_limit p) b).ended p b bs q.1 (until q.0 bs) h

until_taken : (bs : List ℕ) (p : Parser) → Taken p bs (until p bs)
until_taken [] p = (omega arith, refl)
until_taken (b ∷ bs) p = (until_some p b bs (until_taken bs ((engine link_limit).feed p b).0)).1

pub record First (p : Parser) (bs : List ℕ) (r : Fed Lent.Taken) : Type 0 where
  pub some : 0 < r.answer.count
  pub inside : r.answer.count ≤ length bs
  pub first : r.parser ≡ left p (feeds (take r.answer.count bs))
  pub valid : Valid link_limit r.parser

pub slice_first : (p : Parser) → Valid link_limit p → (bs : List ℕ) → 0 < length bs → Bytes bs
    → First p bs (feed_slice_of link_limit p bs)
slice_first p v [] any h = absurd (omega arith)
slice_first p v (b ∷ bs) any h =
    let t = subst (λ (s : Sliced Parser Answer). (0 < s.told) × Taken p (b ∷ bs) s)
    (sym (slice_until link_limit small p b bs v h))
    (until_some p b bs (until_taken bs ((engine link_limit).feed p b).0)) in
    record {
      some = t.0;
      inside = t.1.0;
      first = t.1.1;
      valid = (lawful link_limit small).slice_valid p (b ∷ bs) v h;
    }
