-- The link's decoding (for the crate `engine`) and counting (for `framing`), with their laws.
--   decoding   whole frames, the answer that each gives, and "no frame"
--   counting   what each piece adds to each counter
use mathlib.Core.Path.{◌≡◌, refl}
use mathlib.Core.List.{List}
use mathlib.Core.Bool.{true, false}
use Prim.Native.Nat.{ℕ}
use Rattle.std.specs.Prelude.{Ok, Err, is_some, is_ok, option_map}
use Rattle.std.specs.Result.{result_ok}
use Rattle.std.specs.declared.result.Result.{Result}
use Rattle.refusal.specs.declared.Check.{Check}
use Rattle.frame.specs.Frame.{checked_frame}
use Rattle.frame.specs.declared.Frame.{Frame}
use Rattle.framing.specs.Piece.{unfinished}
use Rattle.framing.proofs.Counting.{Counting}
use Rattle.engine.proofs.Lawful.{Decoding}
use Rattle.stream.specs.Deliver.{Answer, decodes, counted_in, payload_of, delivered, nothing}
use Rattle.stream.specs.Deliver.{Counter, frames, resyncs, dropped, malformed, adds}

-- A frame that fails a check gives the answer "no frame".
pub undecoded : (f : List ℕ) → decodes f ≡ false → delivered f ≡ nothing
unfolding decodes delivered
undecoded f e = go (checked_frame f) e
  where
    go : (r : Result Frame Check) → is_ok r ≡ false
        → ◌≡◌ {A = Answer} (option_map (counted_in 4) (result_ok r), payload_of (result_ok r) f) nothing
    go (Err c) q = refl
    go (Ok x) q = absurd (cc)

pub decodes_delivers : (f : List ℕ) → decodes f ≡ true → is_some (delivered f).0 ≡ true
unfolding decodes delivered
decodes_delivers f e = go (checked_frame f) e
  where
    go : (r : Result Frame Check) → is_ok r ≡ true → is_some (option_map (counted_in 4) (result_ok r)) ≡ true
    go (Ok x) q = refl
    go (Err c) q = q

abbrev pub decoding : Decoding Answer
decoding = record {
  none = nothing;
  delivers = λ a. is_some a.0;
  decodes = decodes;
  answer_of = delivered;
  none_delivers = refl;
  decodes_delivers = decodes_delivers;
  undecoded = undecoded;
}

pub cut_adds_nothing : (k : Counter) (s : List ℕ) → adds k (unfinished s) ≡ 0
cut_adds_nothing frames s = refl
cut_adds_nothing resyncs s = refl
cut_adds_nothing dropped s = refl
cut_adds_nothing malformed s = refl

abbrev pub counting : Counting Counter
counting = record { adds = adds; cut_adds_nothing = cut_adds_nothing }
