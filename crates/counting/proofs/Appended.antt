-- Feeding bytes joined is feeding the first part and then the second.
use mathlib.Core.Path.{◌≡◌, sym, ap, ◌∙◌}
use mathlib.Core.List.{List, ◌++◌, map-append}
use Prim.Native.Nat.{ℕ}
use lib.ListN.{take, drop, take-append-drop}
use Rattle.stream.specs.Length.{link_limit}
use Rattle.engine.specs.Calls.{feed, feeds}
use Rattle.engine.specs.Engine.{call}
use Rattle.engine.proofs.Runs.{final_append}
use Rattle.parser.specs.Engine.{engine}
use Rattle.parser.specs.Claims.{left}
use Rattle.parser.specs.declared.Parser.{Parser}

pub left_append : (p : Parser) (s t : List ℕ) → left p (feeds (s ++ t)) ≡ left (left p (feeds s)) (feeds t)
left_append p s t = rw (map-append feed s t) (final_append (call (engine link_limit)) p (feeds s) (feeds t))

pub left_split : (p : Parser) (n : ℕ) (s : List ℕ)
    → left (left p (feeds (take n s))) (feeds (drop n s)) ≡ left p (feeds s)
left_split p n s =
    sym (left_append p (take n s) (drop n s)) ∙ ap (λ (l : List ℕ). left p (feeds l)) (take-append-drop n s)
