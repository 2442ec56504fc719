-- The piece that a draw chooses.
use mathlib.Core.Path.{◌≡◌}
use mathlib.Core.List.{List}
use Prim.Native.Nat.{ℕ, ◌%◌}
use lib.ListN.{take}
use Rattle.load_writer.specs.Draw.{draw_of}
use Rattle.load_writer.specs.Load.{drawn, basic_report, piece}

-- Remainder 2 chooses a report without its last byte; d is the draw, which the generator holds before the report's own.
pub cut_chosen : (x : ℕ) {d held : ℕ} {report : List ℕ} → d ≡ draw_of x → held ≡ draw_of x → d % 4 ≡ 2
    → report ≡ basic_report (drawn 9 held) → take 22 report ≡ (piece x).bytes
unfolding piece
cut_chosen x e h q r = rw (r, h, ← e, q)
