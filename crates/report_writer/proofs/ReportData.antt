-- The data of a report: their lengths, the puts that lay them out part by part, and that they are bytes.
use mathlib.Core.Path.{◌≡◌, refl}
use mathlib.Core.List.{List, ◌∷◌, ◌++◌, append_assoc}
use mathlib.Core.Bool.{Bool, true, false}
use Prim.Native.Nat.{ℕ, ◌+◌, ◌≤◌, ◌<◌}
use native.Mathlib.Omega.{arith}
use lib.ListN.{length, length-append}
use lib.Seq.{length-take-le}
use Rattle.wire.specs.Bytes.{Bytes}
use Rattle.wire.specs.Number.{le_bytes}
use Rattle.wire.proofs.Bytes.{bytes_append, bytes_take, bytes_le_bytes}
use Rattle.writer.specs.Put.{put_in}
use Rattle.writer.proofs.Chain.{Put, put_nil, put_next}
use Rattle.target_state.proofs.States.{byte_most}
use Rattle.engineering.specs.declared.Engineering.{Engineering}
use Rattle.report.specs.declared.Report.{Report}
use Rattle.report_writer.specs.Data.{highest_gates, moving_energies, stationary_energies, reserved_bytes}
use Rattle.report_writer.specs.Data.{engineering_block, type_of, front_of, block_of, trailer, report_data}
use Rattle.report_writer.proofs.Counts.{Within, Writable, flag_on, flag_off}
use Rattle.report_writer.proofs.Typed.{TypedBlock, TypedReport}

module _ (e : Engineering) (t : TypedBlock e) (w : Within 1 9 8 e) where
  pub moving_length : length (moving_energies e) ≡ e.moving_gates
  moving_length = length-take-le e.moving_gates e.moving_energy (omega arith)

  pub stationary_length : length (stationary_energies e) ≡ e.stationary_gates
  stationary_length = length-take-le e.stationary_gates e.stationary_energy (omega arith)

  pub reserved_length : length (reserved_bytes e) ≡ e.extra_len
  reserved_length = length-take-le e.extra_len e.extra (omega arith)

  pub block_length : length (engineering_block e) ≡ 2 + e.moving_gates + e.stationary_gates + e.extra_len
  unfolding engineering_block
  block_length =
      let m = moving_length in
      let s = stationary_length in
      let x = reserved_length in
      simp length-append (omega arith)

  pub block_put : (d d₁ d₂ d₃ d₄ : List ℕ) (i j n : ℕ) → 41 ≤ length d → d₁ ≡ put_in d 11 (highest_gates e)
      → d₂ ≡ put_in d₁ 13 (moving_energies e) → i ≡ 13 + e.moving_gates → d₃ ≡ put_in d₂ i (stationary_energies e)
      → j ≡ i + e.stationary_gates → d₄ ≡ put_in d₃ j (reserved_bytes e) → n ≡ j + e.extra_len
      → Put d 11 (engineering_block e) n d₄
  unfolding engineering_block
  block_put d d₁ d₂ d₃ d₄ i j n h e₁ e₂ p e₃ q e₄ o =
      let m = moving_length in
      let s = stationary_length in
      let x = reserved_length in
      let w₁ = put_next (put_nil d 11 (omega arith)) (highest_gates e) 13 e₁ refl (omega arith) in
      let w₂ = put_next w₁ (moving_energies e) i e₂ (omega arith) (omega arith) in
      let w₃ = put_next w₂ (stationary_energies e) j e₃ (omega arith) (omega arith) in
      let w₄ = put_next w₃ (reserved_bytes e) n e₄ (omega arith) (omega arith) in
      rw (← append_assoc (moving_energies e) (stationary_energies e) (reserved_bytes e)) w₄

  block_bytes : Bytes (engineering_block e)
  unfolding engineering_block
  block_bytes =
      let m = bytes_take e.moving_gates e.moving_energy t.moving_energy_lem.bytes in
      let s = bytes_take e.stationary_gates e.stationary_energy t.stationary_energy_lem.bytes in
      let x = bytes_take e.extra_len e.extra t.extra.bytes in
      let last = bytes_append (stationary_energies e) (reserved_bytes e) s x in
      (omega arith, (omega arith, bytes_append (moving_energies e) (stationary_energies e ++ reserved_bytes e) m last))

-- Front, block and trailer, put one after the other.
pub data_put : (r : Report) (f d d₁ d₂ d₃ : List ℕ) (n : ℕ) → 13 + length (block_of r) ≤ length d → f ≡ front_of r
    → d₁ ≡ put_in d 0 f → d₂ ≡ put_in d₁ 11 (block_of r) → n ≡ 11 + length (block_of r) → d₃ ≡ put_in d₂ n trailer
    → Put d 0 (report_data r) (n + 2) d₃
unfolding report_data front_of
data_put r f d d₁ d₂ d₃ n h p e₁ e₂ q e₃ =
    let w₁ = put_next (put_nil d 0 (omega arith)) (front_of r) 11 (rw p at e₁) refl (omega arith) in
    let w₂ = put_next w₁ (block_of r) n e₂ q (omega arith) in
    let w₃ = put_next w₂ trailer (n + 2) e₃ refl (omega arith) in
    rw (← append_assoc (front_of r) (block_of r) trailer) w₃

type_byte : (g : Bool) → type_of g < 256
type_byte true = omega arith
type_byte false = omega arith

-- Bytes after the two of a number.
number_bytes : (x : ℕ) (s : List ℕ) → Bytes s → Bytes (le_bytes 2 x ++ s)
number_bytes x s h = bytes_append (le_bytes 2 x) s (bytes_le_bytes 2 x) h

module _ (r : Report) (t : TypedReport r) where
  pub block_short : Writable r → length (block_of r) ≤ 28
  block_short (flag_on h w) = rw h (omega (arith, block_length r.engineering t.engineering w))
  block_short (flag_off h w) = rw h (omega arith)

  pub data_short : Writable r → length (report_data r) ≤ 41
  unfolding report_data front_of
  data_short v = omega (arith, block_short v, length-append (block_of r) trailer)

  front_bytes : Bytes (front_of r)
  unfolding front_of
  front_bytes =
      let s = r.stationary_distance_cm in
      let last = r.stationary_energy ∷ le_bytes 2 r.detection_distance_cm in
      let last_bytes : Bytes last = (t.stationary_energy_lem, bytes_le_bytes 2 r.detection_distance_cm) in
      let middle = r.moving_energy ∷ (le_bytes 2 s ++ last) in
      let middle_bytes : Bytes middle = (t.moving_energy_lem, number_bytes s last last_bytes) in
      let first = number_bytes r.moving_distance_cm middle middle_bytes in
      (type_byte r.has_engineering, (omega arith, (omega (arith, byte_most r.state), first)))

  after_bytes : Writable r → Bytes (block_of r)
  after_bytes (flag_on h w) = rw h (block_bytes r.engineering t.engineering w)
  after_bytes (flag_off h w) = rw h tt

  pub data_bytes : Writable r → Bytes (report_data r)
  unfolding report_data
  data_bytes v =
      let last : Bytes trailer = (omega arith, (omega arith, tt)) in
      bytes_append (front_of r) (block_of r ++ trailer) front_bytes
      (bytes_append (block_of r) trailer (after_bytes v) last)
