-- A put of bytes that fit, and of bytes that do not.
use mathlib.Core.Path.{◌≡◌}
use mathlib.Core.List.{List}
use Prim.Native.Nat.{ℕ, ◌+◌, ◌≤◌, ◌<◌}
use lib.ListN.{length}
use borrow.Author.Tests.{le-leb, lt-leb}
use Rattle.wire.specs.Prefix.{over}
use Rattle.writer.specs.Put.{placed, put_in}
use Rattle.std.specs.Prelude.{Some}

module _ (out : List ℕ) (at : ℕ) (b : List ℕ) where
  pub placed_fits : at + length b ≤ length out → placed out at b ≡ Some (at + length b)
  unfolding placed
  placed_fits h = rw (le-leb (at + length b) (length out) h)

  pub put_fits : at + length b ≤ length out → put_in out at b ≡ over out at b (length b)
  unfolding put_in
  put_fits h = rw (le-leb (at + length b) (length out) h)

  pub put_fails : length out < at + length b → put_in out at b ≡ out
  unfolding put_in
  put_fails h = rw (lt-leb (at + length b) (length out) h)
