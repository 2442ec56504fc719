-- The decoding and the counting of the LD2450's stream, with the laws that the crate `engine` asks of them.
--   decoding   whole frames, the answer that each gives, and "no frame"
--   counting   what each piece adds to each counter
use mathlib.Core.Path.{◌≡◌, refl}
use mathlib.Core.List.{List}
use mathlib.Core.Bool.{true≢false}
use Prim.Native.Nat.{ℕ}
use Rattle.std.specs.Prelude.{is_some}
use Rattle.framing.specs.Piece.{unfinished}
use Rattle.framing.proofs.Counting.{Counting}
use Rattle.engine.proofs.Lawful.{Decoding}
use Rattle.ld2450_parser.specs.Stream.{Answer, nothing, delivered, decodes, Counter, frames, resyncs, dropped, adds}

abbrev pub decoding : Decoding Answer
decoding = record {
  none = nothing;
  delivers = is_some;
  decodes = decodes;
  answer_of = delivered;
  none_delivers = refl;
  decodes_delivers = λ f e. refl;
  undecoded = λ f e. absurd (true≢false e);
}

pub cut_adds_nothing : (k : Counter) (s : List ℕ) → adds k (unfinished s) ≡ 0
cut_adds_nothing frames s = refl
cut_adds_nothing resyncs s = refl
cut_adds_nothing dropped s = refl

abbrev pub counting : Counting Counter
counting = record { adds = adds; cut_adds_nothing = cut_adds_nothing }
