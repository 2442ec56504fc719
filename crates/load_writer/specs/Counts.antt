-- What a parser counts in a load, for desks that exchange a seed.
--   held_after k x      the number that the generator holds after k pieces from the number x
--   choice x           the remainder that chooses the piece after the number x
--   byte_of x           the byte that this piece is, if it is one byte
--   is_report x         whether that piece is a basic report
--   is_cut x            whether it is a report without its last byte
--   is_ack x            whether it is the acknowledgement
--   is_start x          whether it is one byte that begins a header
--   is_mended x         whether it is a report without its last byte, and the piece after it is that byte, F5
--   how_many test k x   how many of the first k pieces pass the test, which is given the number before each
--   mended k x         how many of the first k pieces are reports that another of them mends
--   AddsUp k x ps      what the pieces ps of a division add up to, if they divide the first k pieces of the load
--   Counted x          what a parser finds and counts in the first pieces after x, and so in each load of the seed x
use Rattle.std.specs.Prelude.{◌≡◌, List, Bool, true, cond, ◌&&◌, ◌||◌, ℕ, zero, suc, ◌+◌, ◌-◌, ◌*◌, ◌%◌}
use Rattle.std.specs.Prelude.{◌≤◌, ◌<◌, min, eqb, length}
use Rattle.framing.specs.Piece.{Piece}
use Rattle.framing.specs.Division.{EndsAt}
use Rattle.framing.specs.Tally.{sum, waiting}
use Rattle.stream.specs.Deliver.{decodes, adds, frames, resyncs, dropped, malformed}
use Rattle.stream.specs.Claims.{Divides}
use Rattle.load_writer.specs.Draw.{draw_of}
use Rattle.load_writer.specs.Load.{piece, first_pieces}

abbrev pub held_after : ℕ → ℕ → ℕ
held_after zero x = x
held_after (suc k) x = held_after k (piece x).next

abbrev pub choice : ℕ → ℕ
choice x = draw_of x % 4

abbrev pub byte_of : ℕ → ℕ
byte_of x = draw_of (draw_of x) % 256

abbrev pub is_report : ℕ → Bool
is_report x = eqb (choice x) 1

abbrev pub is_cut : ℕ → Bool
is_cut x = eqb (choice x) 2

abbrev pub is_ack : ℕ → Bool
is_ack x = eqb (choice x) 3

abbrev pub is_start : ℕ → Bool
is_start x = eqb (choice x) 0 && (eqb (byte_of x) 0xF4 || eqb (byte_of x) 0xFD)

abbrev pub is_mended : ℕ → Bool
is_mended x = let y = (piece x).next in is_cut x && (eqb (choice y) 0 && eqb (byte_of y) 0xF5)

abbrev pub how_many : (ℕ → Bool) → ℕ → ℕ → ℕ
how_many test zero x = 0
how_many test (suc k) x = cond (test x) 1 0 + how_many test k (piece x).next

-- The last piece has none after it.
abbrev pub mended : ℕ → ℕ → ℕ
mended k x = how_many is_mended (k - 1) x

pub record AddsUp (k x : ℕ) (ps : List Piece) : Type 0 where
  pub all_frames : sum (adds frames) ps ≡ how_many is_report k x + how_many is_ack k x + mended k x
  pub none_malformed : sum (adds malformed) ps ≡ 0
  -- each report without its last byte that is not mended, and each single F4 or FD, begins a broken start; the last one
  -- may be unfinished instead
  pub all_resyncs : sum (adds resyncs) ps + min 1 (sum waiting ps) + mended k x
      ≡ how_many is_cut k x + how_many is_start k x
  -- reports have 23 bytes, the acknowledgement has 18, and every other byte is dropped or unfinished
  pub all_dropped : sum (adds dropped) ps + sum waiting ps + 23 * (how_many is_report k x + mended k x)
      + 18 * how_many is_ack k x ≡ length (first_pieces k x)

-- A basic report has 13 data bytes and the acknowledgement 8, so a limit of 13 or more takes both.
pub record Counted (x : ℕ) : Type 0 where
  -- every basic report and every acknowledgement decodes
  pub decode : (k : ℕ) → is_report (held_after k x) || is_ack (held_after k x) ≡ true
      → decodes (piece (held_after k x)).bytes ≡ true
  -- each of them is found whole in its place
  pub found : (limit k i : ℕ) → 13 ≤ limit → i < k → is_report (held_after i x) || is_ack (held_after i x) ≡ true
      → (ps : List Piece) → Divides limit (first_pieces k x) ps
      → EndsAt ps (length (first_pieces (suc i) x)) (piece (held_after i x)).bytes
  -- and the counters follow
  pub counts : (limit k : ℕ) → 13 ≤ limit → (ps : List Piece) → Divides limit (first_pieces k x) ps → AddsUp k x ps
