-- Targets, written and read: "The reader gives each written value again", and 6 is for those that it cannot give.
--   ReadAs f ts       the reader gives the targets ts for the string f
--   AsWritten b       the eight bytes b are as the writer writes them: no target, or no signed field 00 00
--   EachAsWritten d   the eight bytes of each of the three targets in d are so
--   target_frames      the writer of targets and the reader of frames
use Rattle.std.specs.Prelude.{◌≡◌, ◌≢◌, ◌⊎◌, List, ℕ, take, drop, replicate, Ok}
use Rattle.writer.specs.RoundTrip.{Codec}
use Rattle.ld2450.specs.Target.{field_at}
use Rattle.ld2450.specs.Frame.{held_in, parsed_targets}
use Rattle.ld2450.specs.Bytes.{targets_frame, unrepresentable}
use Rattle.ld2450.specs.declared.targets.Target.{Target}

abbrev pub ReadAs : List ℕ → List Target → Type 0
ReadAs f ts = parsed_targets f ≡ Ok ts

-- 00 00 and 00 80 are both 0, and the writer puts 00 80
abbrev pub AsWritten : List ℕ → Type 0
AsWritten b = (b ≡ replicate 8 0) ⊎ ((field_at b 0 ≢ 0) × (field_at b 2 ≢ 0) × (field_at b 4 ≢ 0))

abbrev pub EachAsWritten : List ℕ → Type 0
EachAsWritten d = AsWritten (take 8 d) × AsWritten (take 8 (drop 8 d)) × AsWritten (take 8 (drop 16 d))

abbrev pub target_frames : Codec (List Target)
target_frames = record {
  refusal = unrepresentable;
  number = 6;
  frame = targets_frame;
  Reads = ReadAs;
  -- every frame has the same length
  Within = λ f. Unit {0};
  -- the request promises no equal bytes; these frames come back equal all the same
  Kept = λ f. EachAsWritten (held_in f);
}
