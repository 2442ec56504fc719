-- Command frames: decided by the envelope's answer and the number at the place of the word; and made around any data
-- that begin with a word whose ACK bit is clear.
use mathlib.Core.Path.{◌≡◌, ap}
use mathlib.Core.Logic.{◌↔◌}
use mathlib.Core.List.{List}
use mathlib.Core.Bool.{true, false}
use Prim.Native.Nat.{ℕ, ◌+◌, ◌≤◌}
use native.Mathlib.Omega.{arith}
use lib.Dec.{eqb}
use lib.ListN.{length, take, drop, length-take, length-drop}
use lib.Seq.{take-take}
use borrow.Author.Tests.{eq-eqb, eqb-true}
use Rattle.refusal.specs.declared.Check.{Check}
use Rattle.refusal.proofs.Checks.{passes_sound, passes_complete}
use Rattle.wire.specs.Number.{little}
use Rattle.wire.proofs.Numbers.{read_there}
use Rattle.wire.specs.Family.{framed}
use Rattle.wire.specs.declared.Kind.TheVariants.{Report, Command}
use Rattle.frame.specs.Envelope.{announced, data_of, frame_checks, envelope}
use Rattle.std.specs.Prelude.{Ok, Err, unwrap_or}
use Rattle.frame.specs.declared.envelope.Envelope.{Envelope}
use Rattle.frame.proofs.Opened.{around, failed_first, Held, opened_data}
use Rattle.wire.proofs.Framed.{framed_within}
use Rattle.frame.proofs.Framed.{opened_framed}
use Rattle.command_reader.specs.CommandFrame.{IsCommandFrame, ack_bit, word_in, number_in}

-- The answer `false` is right if the claim does not hold.
never : {A : Type 0} → (A → ⊥) → (false ≡ true) ↔ A
never h = (λ e. let z : ◌≡◌ {A = ℕ} 0 1 = cc in absurd (omega arith), λ a. absurd (h a))

module _ (s : List ℕ) where
  -- If a check fails, the string is no command frame.
  pub failed_envelope : (c : Check) → envelope s ≡ Err c → (false ≡ true) ↔ IsCommandFrame s
  failed_envelope c e = never (λ a.
      let f = failed_first s c e in
      let p = passes_complete s frame_checks a.checked in
      let z : ◌≡◌ {A = ℕ} 0 1 = cc in
      omega arith)

  -- A frame with the envelope v.
  module _ (v : Envelope) (e : envelope s ≡ Ok v) where
    opened : Held s v.kind v.end
    opened = opened_data s v e

    data_size : length (data_of s) ≡ announced s
    data_size = simp (length-take, length-drop) (omega (arith, opened.inside))

    pub short_data : v.end ≤ 7 → (false ≡ true) ↔ IsCommandFrame s
    short_data h = never (λ a. omega (arith, opened.ends, data_size, a.worded))

    pub report_family : v.kind ≡ Report → (false ≡ true) ↔ IsCommandFrame s
    report_family q = never (λ a.
        let f = opened.announces in
        let g = a.headed in
        let z : ◌≡◌ {A = ℕ} 0 1 = cc in
        omega arith)

    word_there : 8 ≤ v.end → number_in s 6 ≡ word_in s
    unfolding number_in
    word_there h =
        let t = take-take 2 (announced s) (drop 6 s) (omega (arith, opened.ends)) in
        let inside : 8 ≤ length s = omega (arith, opened.ends, opened.inside) in
        ap (λ o. unwrap_or o 0) (read_there 2 s 6 (record { inside = inside; value = ap little t }))

    pub command_family : v.kind ≡ Command → 8 ≤ v.end → (eqb (ack_bit (number_in s 6)) 0 ≡ true) ↔ IsCommandFrame s
    command_family q h = (
      λ b. record {
        checked = passes_sound s frame_checks opened.passed;
        headed = rw q at opened.announces;
        worded = omega (arith, opened.ends, data_size);
        clear = rw (word_there h) at (eqb-true (ack_bit (number_in s 6)) 0 b);
      },
      λ a. eq-eqb (ack_bit (number_in s 6)) 0 (rw (word_there h) a.clear),
    )

-- The frame around data that begin with a word whose ACK bit is clear.
pub framed_command : (d : List ℕ) → length d ≤ 65535 → 2 ≤ length d → ack_bit (little (take 2 d)) ≡ 0
    → IsCommandFrame (framed Command d)
framed_command d h worded clear =
    let o = opened_data (framed Command d) (around Command (6 + length d)) (opened_framed Command d (omega arith)) in
    let e = framed_within Command d (omega arith) in
    record {
      checked = passes_sound (framed Command d) frame_checks o.passed;
      headed = o.announces;
      worded = rw e worded;
      clear = rw e clear;
    }
