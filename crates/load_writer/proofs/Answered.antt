-- The answer of the writer of loads and the buffer that it leaves, for the seed zero and for any other.
use mathlib.Core.Path.{◌≡◌, refl, sym, ap, ◌∙◌}
use mathlib.Core.Logic.{◌≢◌}
use mathlib.Core.List.{List, ◌++◌, append_assoc}
use Prim.Native.Nat.{ℕ, ◌≤◌, min}
use native.Mathlib.Omega.{arith}
use lib.ListN.{length, take, drop, take-append-drop}
use lib.Seq.{drop-append-le, length-take-le, take-append_seam, drop-append_seam}
use borrow.Author.Tests.{eq-eqb, ne_eqb}
use Rattle.writer.specs.Written.{written}
use Rattle.load_writer.specs.Load.{laid_down, load}
use Rattle.load_writer.specs.Answer.{load_result, load_buffer, LoadCauses}
use Rattle.load_writer.specs.Claims.{Filled}
use Rattle.std.specs.Prelude.{Ok, Err}
use Rattle.load_writer.specs.declared.LoadError.TheVariants.{SeedZero}
use Rattle.load_writer.proofs.Stopping.{load_within}

-- A string written into the front part of a buffer is written into the buffer.
part_written : (out f : List ℕ) (n : ℕ) → length f ≤ n → n ≤ length out
    → written (take n out) f ++ drop n out ≡ written out f
unfolding written
part_written out f n h l =
    let size = length-take-le n out l in
    let join = drop-append-le (length f) (take n out) (drop n out) (omega arith) in
    append_assoc f (drop (length f) (take n out)) (drop n out)
    ∙ ap (λ (s : List ℕ). f ++ s) (sym join ∙ ap (drop (length f)) (take-append-drop n out))

-- The seed zero.
module _ {x : ℕ} (e : x ≡ 0) where
  pub zero_told : (n : ℕ) → Err SeedZero ≡ load_result x n
  unfolding load_result
  zero_told n = rw (eq-eqb x 0 e)

  pub zero_left : (out : List ℕ) → out ≡ load_buffer x out
  unfolding load_buffer
  zero_left out = rw (eq-eqb x 0 e)

  pub zero_caused : (n : ℕ) → LoadCauses x n (Err SeedZero)
  zero_caused n = record {
    accepted = (λ z. absurd (omega arith), λ h. absurd (h e));
    returned = λ h. absurd (h e);
    zero_seed = (λ _. e, λ _. refl);
    refused = λ _. refl;
  }

  pub zero_filled : (out : List ℕ) → Filled x out (Err SeedZero) out
  zero_filled out = record { front = λ h. absurd (h e); stay = refl }

-- Any other seed: the front of the buffer, at most 65,536 bytes of it, is filled.
front_length : (out : List ℕ) {room : ℕ} → room ≡ min (length out) 65536 → length (take room out) ≡ room
front_length out {room} r = length-take-le room out (omega arith)

module _ {x : ℕ} (e : x ≢ 0) (out : List ℕ) {room : ℕ} (r : room ≡ min (length out) 65536) where
  size : length (take room out) ≡ room
  size = front_length out r

  pub load_told : {n : ℕ} → n ≡ length (laid_down x (length (take room out))) → Ok n ≡ load_result x (length out)
  unfolding load_result
  load_told q = rw (ne_eqb x 0 e, q, size, r)

  pub load_left : {front : List ℕ} → front ≡ written (take room out) (laid_down x (length (take room out)))
      → front ++ drop room out ≡ load_buffer x out
  unfolding load_buffer
  load_left q =
      let w = load_within x room in
      rw (ne_eqb x 0 e, q, size) (part_written out (laid_down x room) room w (omega arith) ∙ rw r)

  pub load_caused : {n : ℕ} → n ≡ length (laid_down x (length (take room out))) → LoadCauses x (length out) (Ok n)
  load_caused {n} q =
      let told : n ≡ length (load x (length out)) = q ∙ rw (size, r) in
      record {
        accepted = (λ _. e, λ _. refl);
        returned = λ _. rw told;
        zero_seed = (λ z. absurd (omega arith), λ z. absurd (e z));
        refused = λ z. absurd (e z);
      }

  pub load_filled : {n : ℕ} → n ≡ length (laid_down x (length (take room out)))
      → {front : List ℕ} → front ≡ written (take room out) (laid_down x (length (take room out)))
      → Filled x out (Ok n) (front ++ drop room out)
  unfolding written
  load_filled {n} q {front} h =
      let f = load x (length out) in
      let told : n ≡ length f = q ∙ rw (size, r) in
      let w = load_within x room in
      let put = part_written out (laid_down x room) room w (omega arith) in
      let left : front ++ drop room out ≡ f ++ drop (length f) out = rw (h, size) (put ∙ rw r) in
      record {
        front = λ _. rw (told, left) (take-append_seam f (drop (length f) out));
        stay = rw (told, left) (drop-append_seam f (drop (length f) out));
      }
