-- Bytes, strings of them, and properties of every element of a list.
--   Every P l   every element of l has the property P
--   Byte b      b is a byte: a number below 256
--   Bytes s     s is a string of bytes
use Rattle.std.specs.Prelude.{List, [], ◌∷◌, ℕ, ◌<◌}

abbrev pub Every : {A : Type 0} → (A → Type 0) → List A → Type 0
Every P [] = Unit {0}
Every P (a ∷ l) = P a × Every P l

abbrev pub Byte : ℕ → Type 0
Byte b = b < 256

abbrev pub Bytes : List ℕ → Type 0
Bytes s = Every Byte s
