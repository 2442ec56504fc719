-- What a parser counted, by document 01: the numbers of the division of the bytes that it was fed.
--   FedAll p x s q   the bytes s, fed to the parser x, in which p is pending, leave q: its counters are those of x plus
--                    the totals over the division of p and s
--   Counted s n      the numbers n of a line are those of the division of s
--   Line n           the numbers n are those of some bytes; no contract can name the bytes that are read
use Rattle.std.specs.Prelude.{◌≡◌, List, ◌++◌, ℕ, ◌+◌, min, length}
use Rattle.wire.specs.Counter.{counter_max}
use Rattle.wire.specs.Bytes.{Bytes}
use Rattle.stream.specs.Length.{link_limit}
use Rattle.framing.specs.Piece.{Piece}
use Rattle.framing.specs.Division.{Division, cut}
use Rattle.framing.specs.Tally.{sum}
use Rattle.stream.specs.Open.{Open, Whole}
use Rattle.stream.specs.Deliver.{Counter, adds, frames, resyncs, dropped, malformed}
use Rattle.parser.specs.Feed.{unfinished_of}
use Rattle.parser.specs.Engine.{counter_in, pending_by}
use Rattle.parser.specs.declared.Parser.{Parser}
use Rattle.counting.specs.declared.Counts.{Counts}

pub record FedAll (p : List ℕ) (x : Parser) (s : List ℕ) (q : Parser) : Type 0 where
  pub pieces : List Piece
  pub division : Division (Open link_limit) (Whole link_limit) (p ++ s) pieces
  pub counted : (k : Counter) → counter_in k q.stats ≡ min (counter_in k x.stats + sum (adds k) pieces) counter_max
  pub pending : pending_by link_limit q ≡ cut pieces
  pub unfinished : unfinished_of link_limit q ≡ length (cut pieces)

pub record Counted (s : List ℕ) (n : Counts) : Type 0 where
  pub pieces : List Piece
  pub division : Division (Open link_limit) (Whole link_limit) s pieces
  pub frames_are : n.frames ≡ min (sum (adds frames) pieces) counter_max
  pub resyncs_are : n.resyncs ≡ min (sum (adds resyncs) pieces) counter_max
  pub dropped_are : n.dropped ≡ min (sum (adds dropped) pieces) counter_max
  pub malformed_are : n.malformed ≡ min (sum (adds malformed) pieces) counter_max
  pub unfinished_is : n.unfinished ≡ length (cut pieces)

pub record Line (n : Counts) : Type 0 where
  pub bytes : List ℕ
  pub are_bytes : Bytes bytes
  pub counted : Counted bytes n
