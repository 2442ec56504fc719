-- Tests that compute, for open strings and for whole frames. An open string is a whole frame that may be cut short:
-- `cut` says whether it may.
--   after cut w next s    s begins with the word w, and what follows passes `next`; if s ends within w, `cut` decides
--   reads cut limit k s   s is a frame of the kind k, or, if `cut`, the beginning of one
--   opens, wholes         s is open; s is a whole frame: by the kind that its first byte announces
use mathlib.Core.List.{List, [], ◌∷◌}
use mathlib.Core.Bool.{Bool, true, false, ◌&&◌}
use Prim.Native.Nat.{ℕ}
use lib.Dec.{eqb}
use lib.ListN.{drop}
use Rattle.wire.specs.Number.{little}
use Rattle.wire.specs.Family.{header, tail, starting_with}
use Rattle.wire.specs.declared.Kind.{Kind}
use Rattle.std.specs.declared.option.Option.{Option}
use Rattle.std.specs.Prelude.{Some, None}
use Rattle.stream.specs.Length.{in_range}

abbrev pub after : Bool → List ℕ → (List ℕ → Bool) → List ℕ → Bool
after cut [] next s = next s
after cut (h ∷ w) next [] = cut
after cut (h ∷ w) next (b ∷ s) = eqb b h && after cut w next s

abbrev pub at_end : List ℕ → Bool
at_end [] = true
at_end (b ∷ s) = false

-- The test of what follows a header: a length, that many data bytes, and the tail.
abbrev pub reads_length : Bool → ℕ → Kind → List ℕ → Bool
reads_length cut limit k [] = cut
reads_length cut limit k (lo ∷ []) = cut
reads_length cut limit k (lo ∷ hi ∷ s) = in_range limit (little (lo ∷ hi ∷ []))
    && after cut (tail k) at_end (drop (little (lo ∷ hi ∷ [])) s)

unfoldable pub reads : Bool → ℕ → Kind → List ℕ → Bool
reads cut limit k s = after cut (header k) (reads_length cut limit k) s

abbrev pub reads_as : Bool → ℕ → Option Kind → List ℕ → Bool
reads_as cut limit (Some k) s = reads cut limit k s
reads_as cut limit None s = false

unfoldable pub opens : ℕ → List ℕ → Bool
opens limit [] = true
opens limit (b ∷ s) = reads_as true limit (starting_with b) (b ∷ s)

unfoldable pub wholes : ℕ → List ℕ → Bool
wholes limit [] = false
wholes limit (b ∷ s) = reads_as false limit (starting_with b) (b ∷ s)
