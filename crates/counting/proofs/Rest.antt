-- Bytes fed slice by slice: the remaining ones, fed one by one from here, leave what all of them leave.
--   Rest p bs q rest   the remaining bytes leave of q what all of bs leave of p
use mathlib.Core.Path.{◌≡◌, refl, ◌∙◌}
use mathlib.Core.List.{List}
use Prim.Native.Nat.{ℕ, ◌-◌, ◌≤◌, ◌<◌}
use native.Mathlib.Omega.{arith}
use lib.ListN.{length, take, drop, length-take, length-drop}
use lib.Seq.{take_all}
use Rattle.std.proofs.lemmas.List.{nil_from_length}
use Rattle.wire.specs.Bytes.{Bytes}
use Rattle.wire.proofs.Bytes.{bytes_drop}
use Rattle.stream.specs.Length.{link_limit}
use Rattle.engine.specs.Calls.{feeds}
use Rattle.feed.specs.declared.feeding.Taken.{Taken}
use Rattle.parser.specs.Feed.{feed_slice_of}
use Rattle.parser.specs.Claims.{left}
use Rattle.parser.specs.declared.Parser.{Parser}
use Rattle.parser.proofs.Feeding.{Valid}
use Rattle.counting.proofs.Slices.{First, slice_first}
use Rattle.counting.proofs.Appended.{left_split}

pub record Rest (p : Parser) (bs : List ℕ) (q : Parser) (rest : List ℕ) : Type 0 where
  pub same : left q (feeds rest) ≡ left p (feeds bs)
  pub valid : Valid link_limit q
  pub are_bytes : Bytes rest

pub rest_start : (p : Parser) (bs : List ℕ) → Valid link_limit p → Bytes bs → Rest p bs p bs
rest_start p bs v h = record { same = refl; valid = v; are_bytes = h }

pub rest_smaller : (rest : List ℕ) (n : ℕ) → 0 < n → n ≤ length rest
    → length (take (length rest - n) (drop n rest)) < length rest
rest_smaller rest n some inside = omega (arith, length-take (length rest - n) (drop n rest), length-drop n rest)

module _ (p : Parser) (bs : List ℕ) (q : Parser) (rest : List ℕ) (h : Rest p bs q rest) where
  pub rest_end : length rest ≡ 0 → q ≡ left p (feeds bs)
  rest_end e = rw (nil_from_length rest e) at h.same

  -- A slice feed of the remaining bytes takes at least one, and leaves the others.
  pub rest_further : 0 < length rest → (r : Taken) (left : Parser)
      → (r ≡ (feed_slice_of link_limit q rest).answer) × (left ≡ (feed_slice_of link_limit q rest).parser)
      → (0 < r.count) × (r.count ≤ length rest) × Rest p bs left (take (length rest - r.count) (drop r.count rest))
  rest_further some r left e =
      let first : First q rest (feed_slice_of link_limit q rest) = slice_first q h.valid rest some h.are_bytes in
      let n = (feed_slice_of link_limit q rest).answer.count in
      rw (e.0, e.1, take_all (length rest - n) (drop n rest) (omega (arith, length-drop n rest))) (
        first.some,
        first.inside,
        record {
          same = rw first.first (left_split q n rest) ∙ h.same;
          valid = first.valid;
          are_bytes = bytes_drop n rest h.are_bytes;
        },
      )
