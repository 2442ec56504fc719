-- The draws of the generator, which holds one number of 32 bits: request 8.
--   xor_left k x    the number x, xor itself shifted left by k
--   xor_right k x   the number x, xor itself shifted right by k
--   draw_of x       one draw: the number that the generator holds after x
use Rattle.std.specs.Prelude.{ℕ, ◌*◌, ◌/◌, ◌%◌, ◌^◌}
use Rattle.std.specs.Int.Bits.{bit_xor}

-- "(low 32 bits kept)"
abbrev pub xor_left : ℕ → ℕ → ℕ
xor_left k x = bit_xor x (x * 2 ^ k % 2 ^ 32)

abbrev pub xor_right : ℕ → ℕ → ℕ
xor_right k x = bit_xor x (x / 2 ^ k)

-- "xor with itself shifted left 13 (low 32 bits kept), then right 17, then left 5; each result is a draw"
unfoldable pub draw_of : ℕ → ℕ
draw_of x = xor_left 5 (xor_right 17 (xor_left 13 x))
