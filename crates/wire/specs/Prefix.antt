-- Copies of a byte string into another.
--   over d i s n   the first i bytes of d, then n bytes of s, then the bytes of d from place i + n on
--   pasted d i s   d with as much of s as fits over its bytes from place i on
--   prefixed d s   d with as much of s as fits over its front
--   padded n s     the first n bytes of s, with zeros after them if s is shorter
use Rattle.std.specs.Prelude.{List, ◌++◌, ℕ, ◌+◌, ◌-◌, min, length, take, drop, replicate}

unfoldable pub over : List ℕ → ℕ → List ℕ → ℕ → List ℕ
over d i s n = (take i d ++ take n s) ++ drop (i + n) d

unfoldable pub pasted : List ℕ → ℕ → List ℕ → List ℕ
pasted d i s = over d i s (min (length d - i) (length s))

unfoldable pub prefixed : List ℕ → List ℕ → List ℕ
prefixed d s = take (length d) s ++ drop (length s) d

unfoldable pub padded : ℕ → List ℕ → List ℕ
padded n s = take n s ++ replicate (n - length s) 0
