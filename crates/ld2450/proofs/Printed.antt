-- The examples of request 6, numbers and frames, are what the definitions give.
use mathlib.Core.Path.{refl}
use Rattle.wire.specs.Equal.{same_bytes}
use Rattle.ld2450.specs.Signed.{signed_of}
use Rattle.ld2450.specs.Target.{target_of}
use Rattle.ld2450.specs.Frame.{is_frame, parsed_targets}
use Rattle.ld2450.specs.Bytes.{target_bytes}
use Rattle.ld2450.specs.Claims.{Examples, WrittenExample}

pub examples : Examples
unfolding same_bytes signed_of target_of is_frame parsed_targets
examples = record {
  minus = refl;
  plus = refl;
  clear_zero = refl;
  set_zero = refl;
  still = refl;
  read = refl;
  each = refl;
}

pub written_example : WrittenExample
unfolding target_bytes
written_example = record { some = refl; each = refl }
