-- The data of an acknowledgement: their length, the three puts that lay them out in an array, what is read from them,
-- and that data come back from what is read.
use mathlib.Core.Path.{◌≡◌, refl}
use mathlib.Core.List.{List, ◌++◌}
use Prim.Native.Nat.{ℕ, ◌+◌, ◌-◌, ◌/◌, ◌%◌, ◌≤◌, ◌<◌}
use native.Mathlib.Omega.{arith}
use lib.ListN.{length, take, drop, replicate}
use Rattle.wire.specs.Bytes.{Bytes}
use Rattle.wire.specs.Number.{le_bytes}
use Rattle.wire.proofs.Bytes.{bytes_append, bytes_le_bytes, le_bytes_again, little_two}
use Rattle.ack.specs.Ack.{word_in, status_in}
use Rattle.writer.specs.Put.{put_in}
use Rattle.writer.proofs.Chain.{put_nil, put_next, put_taken}
use Rattle.ack_writer.specs.Frame.{ack_data}

module _ (w s : ℕ) (p : List ℕ) where
  pub data_length : length (ack_data w s p) ≡ 4 + length p
  unfolding ack_data
  data_length = omega arith

  pub data_filled : (b₁ b₂ b₃ : List ℕ) → length p ≤ 50 → b₁ ≡ put_in (replicate 54 0) 0 (le_bytes 2 (w + 0x0100))
      → b₂ ≡ put_in b₁ 2 (le_bytes 2 s) → b₃ ≡ put_in b₂ 4 p → take (4 + length p) b₃ ≡ ack_data w s p
  unfolding ack_data
  data_filled b₁ b₂ b₃ short e₁ e₂ e₃ =
      let start = put_nil (replicate 54 0) 0 (omega arith) in
      let word = put_next start (le_bytes 2 (w + 0x0100)) 2 e₁ refl (omega arith) in
      let status = put_next word (le_bytes 2 s) 4 e₂ refl (omega arith) in
      put_taken (put_next status p (4 + length p) e₃ refl (omega arith))

  pub data_bytes : Bytes p → Bytes (ack_data w s p)
  unfolding ack_data
  data_bytes h =
      bytes_append (le_bytes 2 (w + 0x0100)) (le_bytes 2 s ++ p) (bytes_le_bytes 2 (w + 0x0100))
      (bytes_append (le_bytes 2 s) p (bytes_le_bytes 2 s) h)

  pub data_word : w + 0x0100 < 65536 → word_in (ack_data w s p) ≡ w + 0x0100
  unfolding ack_data
  data_word h = little_two (w + 0x0100) h

  pub data_status : s < 65536 → status_in (ack_data w s p) ≡ s
  unfolding ack_data
  data_status h = little_two s h

  pub data_payload : drop 4 (ack_data w s p) ≡ p
  unfolding ack_data
  data_payload = refl

pub data_again : (d : List ℕ) → Bytes d → 4 ≤ length d → word_in d / 0x0100 % 2 ≡ 1
    → ack_data (word_in d - 0x0100) (status_in d) (drop 4 d) ≡ d
unfolding ack_data
data_again d b four bit =
    let w : word_in d - 0x0100 + 0x0100 ≡ word_in d = omega arith in
    rw w (le_bytes_again 2 d 0 _ b (omega arith) (le_bytes_again 2 d 2 (drop 4 d) b four refl))
