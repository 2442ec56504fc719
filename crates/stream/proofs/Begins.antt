-- Which bytes begin a frame, and that a whole frame is its data, framed.
use mathlib.Core.Path.{◌≡◌, sym, ap, ◌∙◌}
use mathlib.Core.Logic.{◌≢◌, ◌↔◌}
use mathlib.Core.List.{List, [], ◌∷◌, ◌++◌}
use Prim.Native.Nat.{ℕ, ◌<◌}
use native.Mathlib.Omega.{arith}
use lib.ListN.{length}
use lib.Seq.{drop_at}
use borrow.Author.Tests.{ne_eqb}
use Rattle.wire.specs.Number.{le_bytes}
use Rattle.wire.specs.Family.{header, tail, starting_with, framed}
use Rattle.wire.specs.Bytes.{Bytes}
use Rattle.wire.specs.declared.Kind.{Kind}
use Rattle.wire.specs.declared.Kind.TheVariants.{Report, Command}
use Rattle.std.specs.Prelude.{Some, None}
use Rattle.wire.proofs.Families.{header_length}
use Rattle.wire.proofs.Bytes.{bytes_drop, le_bytes_little}
use Rattle.stream.specs.Length.{InRange}
use Rattle.stream.specs.Open.{Open, Whole}
use Rattle.stream.proofs.Opens.{opens_sound, opens_complete}
use Rattle.stream.proofs.Steps.{start_opens, start_strays}

pub stray_bytes : (limit b : ℕ) → (¬ Open limit (b ∷ [])) ↔ (b ≢ 0xF4) × (b ≢ 0xFD)
stray_bytes limit b = (
  λ no. (λ e. no (first Report (rw e)), λ e. no (first Command (rw e))),
  λ ne o.
      let none : starting_with b ≡ None = rw (ne_eqb b 0xF4 ne.0, ne_eqb b 0xFD ne.1) in
      rw (start_strays limit b none) at (opens_complete limit (b ∷ []) o),
)
  where
    first : (k : Kind) → starting_with b ≡ Some k → Open limit (b ∷ [])
    first k e = opens_sound limit (b ∷ []) (rw (start_opens limit b k e) tt)

-- In a string of bytes, the two numbers after a header are bytes.
length_bytes : (k : Kind) (lo hi : ℕ) (r : List ℕ) → Bytes (header k ++ (lo ∷ hi ∷ r)) → Bytes (lo ∷ hi ∷ [])
length_bytes k lo hi r h =
    let s : List ℕ = lo ∷ hi ∷ r in
    let all = rw (drop_at (header k) s 4 (header_length k)) at (bytes_drop 4 (header k ++ s) h) in
    (all.0, (all.1.0, tt))

pub whole_spelled : (limit : ℕ) (s : List ℕ) → Bytes s → (w : Whole limit s) → s ≡ framed w.kind w.held
unfolding framed
whole_spelled limit s bytes w =
    let two = length_bytes w.kind w.lo w.hi (w.held ++ tail w.kind) (rw w.spelled at bytes) in
    let again = ap (le_bytes 2) w.all_there ∙ le_bytes_little (w.lo ∷ w.hi ∷ []) two in
    w.spelled ∙ ap (λ l. header w.kind ++ (l ++ (w.held ++ tail w.kind))) (sym again)

-- Two length bytes announce fewer than 65,536 data bytes.
pub whole_short : (limit : ℕ) (s : List ℕ) → Bytes s → (w : Whole limit s) → length w.held < 65536
whole_short limit s bytes w =
    let two = length_bytes w.kind w.lo w.hi (w.held ++ tail w.kind) (rw w.spelled at bytes) in
    omega (arith, w.all_there, two.0, two.1.0)

pub whole_framed : (limit : ℕ) (s : List ℕ) → Bytes s → Whole limit s
    → (k : Kind) × (d : List ℕ) × InRange limit (length d) × (s ≡ framed k d)
whole_framed limit s bytes w =
    (w.kind, w.held, rw w.all_there w.is_in_range, whole_spelled limit s bytes w)
