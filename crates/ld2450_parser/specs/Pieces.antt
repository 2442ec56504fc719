-- What the pieces of the LD2450's stream are. src/lib.rt pins each of these claims in a contract.
--   DeliversWhole   what a whole frame delivers is what the frame reader gives for it
--   StrayBytes      a stray byte is any but AA
--   BrokenFrames    a frame that breaks is a broken start, up to the byte that breaks it; only that byte is tried again
--   one_of_each       every kind of piece in one stream: a stray byte, two broken starts, `seen`, an unfinished end
--   two_slices       that stream as a slice, and the rest that is not taken as another
--   counted_from n   the counters that these slices leave, where each held n
--   Shown x         that stream divides so, and the parser x delivers the frame and counts the pieces
use Rattle.std.specs.Prelude.{◌≡◌, ◌≢◌, ◌↔◌, ◌⊎◌, List, [], ◌∷◌, ◌++◌, ℕ, ◌≤◌, ◌<◌, length, get_or, take, drop, replicate, Some, Ok}
use Rattle.framing.specs.Piece.{Piece, stray, broken, whole, unfinished}
use Rattle.framing.specs.Division.{Division}
use Rattle.engine.specs.Calls.{Call, slice, sliced}
use Rattle.ld2450.specs.Frame.{framed, parsed_targets}
use Rattle.ld2450.specs.declared.targets.Target.{Target}
use Rattle.ld2450.specs.Claims.{seen}
use Rattle.ld2450_parser.specs.Stream.{Open, Whole, nothing, delivered}
use Rattle.ld2450_parser.specs.Feed.{put, unfinished_of}
use Rattle.ld2450_parser.specs.Claims.{did, left}
use Rattle.ld2450_parser.specs.declared.Parser.{Parser}
use Rattle.ld2450_parser.specs.declared.Stats.{Stats}

-- "every whole frame decodes"
unfoldable pub DeliversWhole : Type 0
DeliversWhole = (f : List ℕ) → Whole f
    → (ts : List Target) × (parsed_targets f ≡ Ok ts) × (delivered f ≡ Some ts)

unfoldable pub StrayBytes : Type 0
StrayBytes = (b : ℕ) → (¬ Open (b ∷ [])) ↔ (b ≢ 0xAA)

-- 01: "After a broken tail the whole span is searched again. Only the offending byte is." n bytes of a frame are
-- pending, a byte of the header or the tail is due, and another, c, comes: whatever the targets hold, the n bytes are a
-- broken start, and c begins the next piece.
unfoldable pub BrokenFrames : Type 0
BrokenFrames = (d : List ℕ) (n c : ℕ) (t : List ℕ) (ps : List Piece) → length d ≡ 24 → 0 < n → n < 30
    → (n < 4) ⊎ (28 ≤ n) → c ≢ get_or (framed d) n 0 → Division Open Whole (c ∷ t) ps
    → Division Open Whole (take n (framed d) ++ (c ∷ t)) (broken (take n (framed d)) ∷ ps)

abbrev pub one_of_each : List ℕ
one_of_each = 0x00 ∷ 0xAA ∷ take 29 seen ++ (seen ++ (0xAA ∷ 0xFF ∷ []))

abbrev pub two_slices : List Call
two_slices = slice one_of_each ∷ slice (drop 61 one_of_each) ∷ []

abbrev pub counted_from : ℕ → Stats
counted_from n = (left (put (replicate 24 0) 0 (record { frames = n; resyncs = n; dropped = n })) two_slices).stats

pub record Shown (x : Parser) : Type 0 where
  pub divided : Division Open Whole one_of_each
      (stray 0x00 ∷ broken (0xAA ∷ []) ∷ broken (take 29 seen) ∷ whole seen ∷ unfinished (0xAA ∷ 0xFF ∷ []) ∷ [])
  pub answered : did x two_slices ≡ sliced one_of_each 61 (delivered seen) ∷ sliced (drop 61 one_of_each) 2 nothing ∷ []
  pub counted : (left x two_slices).stats ≡ record { frames = 1; resyncs = 2; dropped = 31 }
  pub cut_off : unfinished_of (left x two_slices) ≡ 2
  -- "as wide as Item 1's and stopping where they do": from 2 to the 32nd they go on, and full they stay
  pub wide : counted_from 4294967296 ≡ record { frames = 4294967297; resyncs = 4294967298; dropped = 4294967327 }
  pub full : counted_from 18446744073709551615
      ≡ record { frames = 18446744073709551615; resyncs = 18446744073709551615; dropped = 18446744073709551615 }
