-- The LD2450's stream, as demand 3 (crate `engine`) speaks of it: request 6, "a stream parser that meets demand 3 over
-- a division of the same kind, with three counters".
--   Open s        a frame begins with the string s
--   Whole s       s is a whole frame (crate `ld2450`, IsFrame)
--   Answer        the targets of a frame, if there is one
--   nothing       the answer "no frame"
--   delivered f   the answer that delivers the whole frame f: its targets, as the frame reader gives them
--   decodes f     whether the whole frame f decodes: each does
--   Counter       the three counters
--   adds c p      what the piece p adds to the counter c
--   ld2450        the stream of the module
use Rattle.std.specs.Prelude.{◌≡◌, List, ◌++◌, Bool, true, ℕ, length, Some, None, is_some}
use Rattle.std.specs.declared.option.Option.{Option}
use Rattle.framing.specs.Piece.{Piece}
use Rattle.framing.specs.Tally.{resynced, lost, passed}
use Rattle.engine.specs.Fulfilled.{Protocol}
use Rattle.ld2450.specs.Target.{three_of}
use Rattle.ld2450.specs.Frame.{framed, IsFrame, held_in}
use Rattle.ld2450.specs.declared.targets.Target.{Target}

-- "AA FF 03 00, three targets of eight bytes, 55 CC: 30 bytes": each beginning of such a frame
pub record Open (s : List ℕ) : Type 0 where
  pub held : List ℕ
  pub rest : List ℕ
  pub all_there : length held ≡ 24
  pub spelled : s ++ rest ≡ framed held

abbrev pub Whole : List ℕ → Type 0
Whole s = IsFrame s

abbrev pub Answer : Type 0
Answer = Option (List Target)

abbrev pub nothing : Answer
nothing = None

abbrev pub delivered : List ℕ → Answer
delivered f = Some (three_of (held_in f))

-- "every whole frame decodes, so none is malformed"
abbrev pub decodes : List ℕ → Bool
decodes f = true

pub data Counter : Type 0 where
  frames resyncs dropped : Counter

-- 01: "`resyncs` counts broken starts. `dropped` counts stray bytes and the bytes of broken starts. `frames` counts
-- whole frames that decode"
abbrev pub adds : Counter → Piece → ℕ
adds frames p = passed decodes p
adds resyncs p = resynced p
adds dropped p = lost p

abbrev pub ld2450 : Protocol Answer Counter
ld2450 = record {
  Open = Open;
  Whole = Whole;
  decodes = decodes;
  answer_of = delivered;
  delivers = is_some;
  none = nothing;
  adds = adds;
}
