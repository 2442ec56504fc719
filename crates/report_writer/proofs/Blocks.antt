-- The engineering block: the fields come back, and a block of at most eight reserved bytes does.
use mathlib.Core.Path.{◌≡◌, sym, ◌∙◌}
use mathlib.Core.List.{List, ◌∷◌, ◌++◌}
use mathlib.Core.Bool.{true}
use Prim.Native.Nat.{ℕ, ◌+◌, ◌-◌, ◌≤◌}
use native.Mathlib.Omega.{arith}
use lib.ListN.{length, get_or, take, drop, length-drop, take-append-drop}
use lib.Seq.{take_at, drop_at, drop-drop, length-take-le}
use Rattle.engineering.specs.Gates.{moving_gates_in, stationary_gates_in, gates_fit}
use Rattle.engineering.specs.Block.{reserved, extra_count}
use Rattle.engineering.specs.Block.{engineering_of, no_engineering}
use Rattle.engineering.specs.declared.Engineering.{Engineering}
use Rattle.engineering.proofs.Counts.{Fits, fits_complete}
use Rattle.report_writer.specs.Data.{moving_energies, stationary_energies, reserved_bytes}
use Rattle.report_writer.specs.Data.{engineering_block}
use Rattle.report_writer.proofs.Counts.{Within}
use Rattle.report_writer.proofs.Typed.{TypedBlock}
use Rattle.report_writer.proofs.Padding.{zeros_whole, padded_back, padded_front, padded_counted}
use Rattle.report_writer.proofs.ReportData.{moving_length, stationary_length, reserved_length, block_length}
use Rattle.report_writer.proofs.Shapes.{two_front}

-- An engineering part is determined by its fields.
by_fields : (e : Engineering) {m s n : ℕ} {p q x : List ℕ} → m ≡ e.moving_gates → s ≡ e.stationary_gates
    → p ≡ e.moving_energy → q ≡ e.stationary_energy → x ≡ e.extra → n ≡ e.extra_len
    → record {
      moving_gates = m;
      stationary_gates = s;
      moving_energy = p;
      stationary_energy = q;
      extra = x;
      extra_len = n;
    } ≡ e
by_fields e a b c d f g = rw (a, b, c, d, f, g)

-- The fields come back from their block.
module _ (e : Engineering) (t : TypedBlock e) where
  -- With the flag off, every field is 0.
  pub none_back : Within 0 0 0 e → no_engineering ≡ e
  none_back w =
      by_fields e (omega arith) (omega arith) (zeros_whole t.moving_energy_lem w.moving)
      (zeros_whole t.stationary_energy_lem w.stationary) (zeros_whole t.extra w.reserved) (omega arith)

  module _ (w : Within 1 9 8 e) where
    abbrev written : List ℕ
    written = engineering_block e

    moving_said : moving_gates_in written ≡ e.moving_gates
    unfolding engineering_block
    moving_said = omega arith

    stationary_said : stationary_gates_in written ≡ e.stationary_gates
    unfolding engineering_block
    stationary_said = omega arith

    moving_back : take (moving_gates_in written) (drop 2 written) ≡ moving_energies e
    unfolding engineering_block
    moving_back =
        take_at (moving_energies e) (stationary_energies e ++ reserved_bytes e) (moving_gates_in written)
        (moving_length e t w ∙ sym moving_said)

    after_moving : drop (2 + moving_gates_in written) written ≡ stationary_energies e ++ reserved_bytes e
    unfolding engineering_block
    after_moving =
        sym (drop-drop (moving_gates_in written) 2 written)
        ∙ drop_at (moving_energies e) (stationary_energies e ++ reserved_bytes e) (moving_gates_in written)
        (moving_length e t w ∙ sym moving_said)

    stationary_back : take (stationary_gates_in written) (drop (2 + moving_gates_in written) written) ≡ stationary_energies e
    stationary_back =
        rw (after_moving, stationary_said)
        (take_at (stationary_energies e) (reserved_bytes e) e.stationary_gates (stationary_length e t w))

    pub block_reserved : reserved written ≡ reserved_bytes e
    block_reserved =
        rw (← drop-drop (stationary_gates_in written) (2 + moving_gates_in written) written, after_moving, stationary_said)
        (drop_at (stationary_energies e) (reserved_bytes e) e.stationary_gates (stationary_length e t w))

    pub block_fits_lem : gates_fit written ≡ true
    block_fits_lem = fits_complete written (record {
      counts = omega (arith, block_length e t w);
      moving = omega (arith, moving_said);
      stationary = omega (arith, stationary_said);
      energies = omega (arith, moving_said, stationary_said, block_length e t w);
    })

    pub block_back : engineering_of written ≡ e
    unfolding engineering_of
    block_back =
        by_fields e moving_said stationary_said
        (rw moving_back (padded_back t.moving_energy_lem w.moving (omega arith)))
        (rw stationary_back (padded_back t.stationary_energy_lem w.stationary (omega arith)))
        (rw block_reserved (padded_back t.extra w.reserved (omega arith)))
        (rw block_reserved (omega (arith, reserved_length e t w)))

-- A block that fits is read as fields within the bounds, and comes back from them.
module _ (b : List ℕ) (h : Fits b) (s : length (reserved b) ≤ 8) where
  abbrev moving : List ℕ
  moving = take (moving_gates_in b) (drop 2 b)

  abbrev following : List ℕ
  following = drop (2 + moving_gates_in b) b

  abbrev stationary : List ℕ
  stationary = take (stationary_gates_in b) following

  moving_read : length moving ≡ moving_gates_in b
  moving_read = length-take-le (moving_gates_in b) (drop 2 b) (omega (arith, length-drop 2 b))

  stationary_read : length stationary ≡ stationary_gates_in b
  stationary_read = length-take-le (stationary_gates_in b) following (omega (arith, length-drop (2 + moving_gates_in b) b))

  reserved_read : length (reserved b) ≡ extra_count (reserved b)
  reserved_read = omega arith

  pub block_within : Within 1 9 8 (engineering_of b)
  unfolding engineering_of
  block_within = record {
    moving = padded_counted 9 _ moving moving_read h.moving 1 9 (omega arith) h.moving;
    stationary = padded_counted 9 _ stationary stationary_read h.stationary 1 9 (omega arith) h.stationary;
    reserved = padded_counted 8 _ (reserved b) reserved_read (omega arith) 0 8 (omega arith) (omega arith);
  }

  block_split : get_or b 0 0 ∷ get_or b 1 0 ∷ (moving ++ (stationary ++ reserved b)) ≡ b
  block_split =
      rw (
        ← drop-drop (stationary_gates_in b) (2 + moving_gates_in b) b,
        take-append-drop (stationary_gates_in b) following,
        ← drop-drop (moving_gates_in b) 2 b,
        take-append-drop (moving_gates_in b) (drop 2 b),
      ) (two_front b h.counts)

  pub block_again : engineering_block (engineering_of b) ≡ b
  unfolding engineering_block engineering_of
  block_again =
      let x : moving_gates_in b - 1 ≡ get_or b 0 0 = omega arith in
      let y : stationary_gates_in b - 1 ≡ get_or b 1 0 = omega arith in
      rw (
        padded_front 9 (moving_gates_in b) moving moving_read h.moving,
        padded_front 9 (stationary_gates_in b) stationary stationary_read h.stationary,
        padded_front 8 (extra_count (reserved b)) (reserved b) reserved_read (omega arith),
        x,
        y,
      ) block_split
