-- The load of a seed: request 8.
--   after n x         the number that the generator holds after n draws from the number x
--   drawn n x         these n draws, each modulo 256
--   basic_report b     the frame of a basic report with the nine basic bytes b
--   enable_config_ack   the acknowledgement that a piece may be, that of `EnableConfig`
--   LoadPiece         a piece: its bytes, and the number that the generator holds after it
--   piece_by i x       the piece that the remainder i chooses, drawn from the number x
--   piece x           the piece that comes after the number x
--   first_pieces k x   the first k pieces after the number x, joined
--   fitting k x n     of these, the ones before the first that would pass n bytes, joined
--   laid_down x n      the pieces after the number x that are laid down in n bytes, joined
--   load x n          the load of the seed x in a buffer of n bytes
use Rattle.std.specs.Prelude.{List, [], ◌∷◌, ◌++◌, cond, ℕ, zero, suc, ◌-◌, ◌%◌, min, leb, length, take}
use Rattle.wire.specs.Family.{framed}
use Rattle.wire.specs.declared.Kind.TheVariants.{Report}
use Rattle.load_writer.specs.Draw.{draw_of}

abbrev pub after : ℕ → ℕ → ℕ
after zero x = x
after (suc n) x = after n (draw_of x)

-- "The one byte, and the nine basic bytes of a report, are draws modulo 256."
abbrev pub drawn : ℕ → ℕ → List ℕ
drawn zero x = []
drawn (suc n) x = draw_of x % 256 ∷ drawn n (draw_of x)

-- document 01: "Report data are `data_type`, AA, nine bytes .., 55, 00"; type 02 has no engineering block
abbrev pub basic_report : List ℕ → List ℕ
basic_report b = framed Report (0x02 ∷ 0xAA ∷ (b ++ (0x55 ∷ 0x00 ∷ [])))

-- "FD FC FB FA 08 00 FF 01 00 00 01 00 40 00 04 03 02 01"
abbrev pub enable_config_ack : List ℕ
enable_config_ack = 0xFD ∷ 0xFC ∷ 0xFB ∷ 0xFA ∷ 0x08 ∷ 0x00 ∷ 0xFF ∷ 0x01 ∷ 0x00 ∷ 0x00 ∷ 0x01 ∷ 0x00 ∷ 0x40 ∷ 0x00
    ∷ 0x04 ∷ 0x03 ∷ 0x02 ∷ 0x01 ∷ []

pub record LoadPiece : Type 0 where
  pub bytes : List ℕ
  pub next : ℕ

-- "0, one byte; 1, a basic report; 2, the same without its last byte; 3, FD FC FB FA .."; a basic report has 23 bytes
abbrev pub piece_by : ℕ → ℕ → LoadPiece
piece_by zero x = record { bytes = drawn 1 x; next = after 1 x }
piece_by (suc zero) x = record { bytes = basic_report (drawn 9 x); next = after 9 x }
piece_by (suc (suc zero)) x = record { bytes = take 22 (basic_report (drawn 9 x)); next = after 9 x }
piece_by (suc (suc (suc i))) x = record { bytes = enable_config_ack; next = x }

-- "A piece is chosen by a draw's remainder by 4"
unfoldable pub piece : ℕ → LoadPiece
piece x = piece_by (draw_of x % 4) (draw_of x)

abbrev pub first_pieces : ℕ → ℕ → List ℕ
first_pieces zero x = []
first_pieces (suc k) x = (piece x).bytes ++ first_pieces k (piece x).next

abbrev pub fitting : ℕ → ℕ → ℕ → List ℕ
fitting zero x n = []
fitting (suc k) x n =
    let p = piece x in
    cond (leb (length p.bytes) n) (p.bytes ++ fitting k p.next (n - length p.bytes)) []

-- "Pieces are laid down until the next would pass": each has a byte, so n bytes have room for n pieces at most
unfoldable pub laid_down : ℕ → ℕ → List ℕ
laid_down x n = fitting n x n

-- "the buffer's end or 65,536 bytes"
abbrev pub load : ℕ → ℕ → List ℕ
load x n = laid_down x (min n 65536)
