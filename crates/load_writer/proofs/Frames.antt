-- The frames of a load: a basic report and the acknowledgement are whole and decode, and a report without its last byte
-- waits for that byte alone.
use mathlib.Core.Path.{◌≡◌, refl}
use mathlib.Core.List.{List, [], ◌∷◌, ◌++◌}
use mathlib.Core.Bool.{true}
use Prim.Native.Nat.{ℕ, ◌≤◌}
use native.Mathlib.Omega.{arith}
use lib.Dec.{eqb}
use lib.ListN.{take}
use Rattle.wire.specs.Equal.{same_bytes}
use Rattle.wire.specs.Family.{header_of, framed}
use Rattle.wire.specs.declared.Kind.TheVariants.{Report, Command}
use Rattle.frame.specs.Frame.{checked_frame}
use Rattle.framing.proofs.Framing.{Waits}
use Rattle.stream.specs.Open.{Whole}
use Rattle.stream.specs.Deliver.{decodes}
use Rattle.stream.proofs.Scan.{opens}
use Rattle.stream.proofs.Link.{link, open_prefix, whole_open, whole_ends}
use Rattle.stream.proofs.Traps.{tail_goes_on}
use Rattle.load_writer.specs.Load.{drawn, basic_report, enable_config_ack}

pub report_decodes : (y : ℕ) → decodes (basic_report (drawn 9 y)) ≡ true
unfolding framed decodes checked_frame header_of same_bytes
report_decodes y = refl

pub ack_decodes : decodes enable_config_ack ≡ true
unfolding decodes checked_frame header_of same_bytes
ack_decodes = refl

module _ (limit : ℕ) (room : 13 ≤ limit) where
  pub ack_whole : Whole limit enable_config_ack
  ack_whole = record {
    kind = Command;
    lo = 8;
    hi = 0;
    held = 0xFF ∷ 0x01 ∷ 0x00 ∷ 0x00 ∷ 0x01 ∷ 0x00 ∷ 0x40 ∷ 0x00 ∷ [];
    is_in_range = (omega arith, omega arith);
    all_there = refl;
    spelled = refl;
  }

  module _ (y : ℕ) where
    abbrev held : List ℕ
    held = 0x02 ∷ 0xAA ∷ (drawn 9 y ++ (0x55 ∷ 0x00 ∷ []))

    pub report_whole : Whole limit (basic_report (drawn 9 y))
    unfolding framed
    report_whole = record {
      kind = Report;
      lo = 13;
      hi = 0;
      held = held;
      is_in_range = (omega arith, omega arith);
      all_there = refl;
      spelled = refl;
    }

    -- With its last byte, a cut report is whole.
    cut_completed : take 22 (basic_report (drawn 9 y)) ++ (0xF5 ∷ []) ≡ basic_report (drawn 9 y)
    unfolding framed
    cut_completed = refl

    pub cut_waits : Waits (link limit) (take 22 (basic_report (drawn 9 y)))
    cut_waits =
        let o = rw (← cut_completed) at (whole_open limit _ report_whole) in
        (open_prefix limit _ (0xF5 ∷ []) o, λ w. whole_ends limit _ 0xF5 w o)

    -- No other byte keeps it open.
    pub cut_goes_on : (c : ℕ) → opens limit (take 22 (basic_report (drawn 9 y)) ++ (c ∷ [])) ≡ eqb c 0xF5
    unfolding framed
    cut_goes_on c =
        tail_goes_on limit Report 13 0 held 3 (omega arith, omega arith) refl (omega arith) c
