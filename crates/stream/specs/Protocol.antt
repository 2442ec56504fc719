-- The LD2410's link, as demand 3 (crate `engine`) speaks of it: document 01, "The division of a stream".
--   ld2410 limit   the link, over the largest length that the stream takes
use Rattle.std.specs.Prelude.{ℕ, is_some}
use Rattle.engine.specs.Fulfilled.{Protocol}
use Rattle.stream.specs.Open.{Open, Whole}
use Rattle.stream.specs.Deliver.{Answer, decodes, delivered, nothing, Counter, adds}

abbrev pub ld2410 : ℕ → Protocol Answer Counter
ld2410 limit = record {
  Open = Open limit;
  Whole = Whole limit;
  decodes = decodes;
  answer_of = delivered;
  -- "A call delivers when its answer has a frame"
  delivers = λ a. is_some a.0;
  none = nothing;
  adds = adds;
}
