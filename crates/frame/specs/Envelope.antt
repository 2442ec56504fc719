-- A frame's envelope: "F1 header is F4 F3 F2 F1 (report) or FD FC FB FA (command); F2 two length bytes; F3 that many
-- data bytes, 0 to 65,535; F4 the rest is exactly the tail".
--   family s         the family whose header s begins with, if any
--   announced s      the length that the length bytes of s announce
--   data_of s         that many bytes after the length bytes
--   ends_as m t       t is exactly the tail of the family m
--   f1, f2, f3, f4   the tests of F1 to F4
--   frame_checks      F1 to F4, in this order
--   opened_as m o i   the answer by the family m and the first failed check o, if the data end at place i
--   envelope s       the answer for s: the first check that fails, or the family and the place where the data end
use Rattle.std.specs.Prelude.{List, [], ◌∷◌, Bool, false, ℕ, ◌+◌, leb, length, take, drop, is_some, Some, None, Err}
use Rattle.std.specs.declared.option.Option.{Option}
use Rattle.std.specs.declared.result.Result.{Result}
use Rattle.refusal.specs.Refusal.{or_error}
use Rattle.refusal.specs.Check.{Checks, first_failed}
use Rattle.refusal.specs.declared.Check.{Check}
use Rattle.refusal.specs.declared.Check.TheVariants.{F1, F2, F3, F4}
use Rattle.wire.specs.Number.{little}
use Rattle.wire.specs.Equal.{same_bytes}
use Rattle.wire.specs.Family.{tail, header_of}
use Rattle.wire.specs.declared.Kind.{Kind}
use Rattle.frame.specs.declared.envelope.Envelope.{Envelope}

abbrev pub family : List ℕ → Option Kind
family s = header_of (take 4 s)

abbrev pub announced : List ℕ → ℕ
announced s = little (take 2 (drop 4 s))

abbrev pub data_of : List ℕ → List ℕ
data_of s = take (announced s) (drop 6 s)

abbrev pub ends_as : Option Kind → List ℕ → Bool
ends_as (Some k) t = same_bytes t (tail k)
ends_as None t = false

abbrev pub f1 : List ℕ → Bool
f1 s = is_some (family s)

abbrev pub f2 : List ℕ → Bool
f2 s = leb 6 (length s)

abbrev pub f3 : List ℕ → Bool
f3 s = leb (6 + announced s) (length s)

abbrev pub f4 : List ℕ → Bool
f4 s = ends_as (family s) (drop (6 + announced s) s)

abbrev pub frame_checks : Checks
frame_checks = (F1, f1) ∷ (F2, f2) ∷ (F3, f3) ∷ (F4, f4) ∷ []

abbrev pub opened_as : Option Kind → Option Check → ℕ → Result Envelope Check
opened_as (Some k) o i = or_error o (record { kind = k; end = i })
opened_as None o i = Err F1

unfoldable pub envelope : List ℕ → Result Envelope Check
envelope s = opened_as (family s) (first_failed frame_checks s) (6 + announced s)
