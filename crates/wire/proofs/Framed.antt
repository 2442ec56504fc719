-- A frame put together and taken apart: where the parts of `framed k d` are. And a byte string of a header, a length,
-- that many bytes and the tail is the frame around these bytes.
use mathlib.Core.Path.{◌≡◌, refl, sym}
use mathlib.Core.List.{List, ◌++◌}
use Prim.Native.Nat.{ℕ, ◌+◌, ◌≤◌, ◌<◌}
use native.Mathlib.Omega.{arith}
use lib.ListN.{length, take, drop, length-append, take-append-drop, length-take, length-drop}
use lib.Seq.{take_at, drop_at, drop-drop}
use Rattle.wire.specs.Bytes.{Bytes}
use Rattle.wire.specs.Number.{little, le_bytes}
use Rattle.wire.specs.Family.{header, tail, header_of, framed}
use Rattle.wire.specs.declared.Kind.{Kind}
use Rattle.wire.specs.declared.Kind.TheVariants.{Report, Command}
use Rattle.std.specs.Prelude.{Some}
use Rattle.wire.proofs.Families.{header_length, header_sound, header_complete}
use Rattle.wire.proofs.Bytes.{bytes_append, bytes_le_bytes, le_bytes_again, little_two}

pub framed_family : (k : Kind) (d : List ℕ) → header_of (take 4 (framed k d)) ≡ Some k
unfolding framed
framed_family k d =
    rw (take_at (header k) (le_bytes 2 (length d) ++ (d ++ tail k)) 4 (header_length k)) (header_complete k)

pub framed_length : (k : Kind) (d : List ℕ) → length (framed k d) ≡ 10 + length d
unfolding framed
framed_length Report d = rw (length-append d (tail Report)) (omega arith)
framed_length Command d = rw (length-append d (tail Command)) (omega arith)

framed_rest : (k : Kind) (d : List ℕ) → drop 4 (framed k d) ≡ le_bytes 2 (length d) ++ (d ++ tail k)
unfolding framed
framed_rest Report d = refl
framed_rest Command d = refl

module _ (k : Kind) (d : List ℕ) where
  pub framed_data : drop 6 (framed k d) ≡ d ++ tail k
  framed_data = rw (← drop-drop 2 4 (framed k d), framed_rest k d)

  pub framed_tail : drop (6 + length d) (framed k d) ≡ tail k
  framed_tail = rw (← drop-drop (length d) 6 (framed k d), framed_data) (drop_at d (tail k) (length d) refl)

  -- If the length fits two bytes.
  module _ (small : length d < 65536) where
    pub framed_announced : little (take 2 (drop 4 (framed k d))) ≡ length d
    framed_announced = rw (framed_rest k d) (little_two (length d) small)

    pub framed_within : take (little (take 2 (drop 4 (framed k d)))) (drop 6 (framed k d)) ≡ d
    framed_within = rw (framed_announced, framed_data) (take_at d (tail k) (length d) refl)

-- The frame around bytes is a string of bytes.
header_bytes : (k : Kind) → Bytes (header k)
header_bytes Report = (omega arith, (omega arith, (omega arith, (omega arith, tt))))
header_bytes Command = (omega arith, (omega arith, (omega arith, (omega arith, tt))))

tail_bytes : (k : Kind) → Bytes (tail k)
tail_bytes Report = (omega arith, (omega arith, (omega arith, (omega arith, tt))))
tail_bytes Command = (omega arith, (omega arith, (omega arith, (omega arith, tt))))

pub framed_bytes : (k : Kind) (d : List ℕ) → Bytes d → Bytes (framed k d)
unfolding framed
framed_bytes k d h =
    bytes_append (header k) (le_bytes 2 (length d) ++ (d ++ tail k)) (header_bytes k)
    (bytes_append (le_bytes 2 (length d)) (d ++ tail k) (bytes_le_bytes 2 (length d))
    (bytes_append d (tail k) h (tail_bytes k)))

-- Taken apart: a string with the header of k, and with the tail of k after as many bytes as its length says.
module _ (k : Kind) (s : List ℕ) where
  abbrev says : ℕ
  says = little (take 2 (drop 4 s))

  pub framed_again : Bytes s → header_of (take 4 s) ≡ Some k → 6 + says ≤ length s → drop (6 + says) s ≡ tail k
      → s ≡ framed k (take says (drop 6 s))
  unfolding framed
  framed_again b f1 f3 f4 =
      let size : length (take says (drop 6 s)) ≡ says = simp (length-take, length-drop) (omega arith) in
      let last : take says (drop 6 s) ++ tail k ≡ drop 6 s =
      rw (← f4, ← drop-drop says 6 s) (take-append-drop says (drop 6 s)) in
      let rest = le_bytes_again 2 s 4 (take says (drop 6 s) ++ tail k) b (omega arith) last in
      rw (size, rest, ← header_sound (take 4 s) k f1) (sym (take-append-drop 4 s))
