-- A target's eight bytes, and which targets can be written: request 6.
--   is_zero z             whether z is 0
--   present_bytes t       the eight bytes of a target t that is present
--   target_bytes t        the eight bytes of the target t
--   targets_bytes ts      the bytes of the targets ts, one after another
--   targets_frame ts      the frame around them
--   writable t           whether the target t can be written; all_writable ts, whether each of the targets can
--   unrepresentable ts   refusal 6, unless they can
--   Unsayable t          no bytes say the target t, for one of the request's two causes
--   SomeUnsayable ts     one of the targets is such
use Rattle.std.specs.Prelude.{◌≡◌, ◌≢◌, List, [], ◌∷◌, ◌++◌, Bool, true, false, cond, ◌&&◌, ℕ, eqb, replicate, ℤ, pos, negsuc, neg_ℤ}
use Rattle.std.specs.List.{list_all}
use Rattle.std.specs.declared.option.Option.{Option}
use Rattle.refusal.specs.declared.Error.{Error}
use Rattle.refusal.specs.declared.Error.TheVariants.{Unrepresentable}
use Rattle.wire.specs.Number.{le_bytes}
use Rattle.writer.specs.Written.{unless}
use Rattle.ld2450.specs.Signed.{raw_of, sayable}
use Rattle.ld2450.specs.Frame.{framed}
use Rattle.ld2450.specs.declared.targets.Target.{Target}

abbrev pub is_zero : ℤ → Bool
is_zero (pos n) = eqb n 0
is_zero (negsuc n) = false

abbrev pub present_bytes : Target → List ℕ
present_bytes t =
    le_bytes 2 (raw_of t.x)
    ++ (le_bytes 2 (raw_of t.y) ++ (le_bytes 2 (raw_of t.speed) ++ le_bytes 2 t.resolution))

-- "Eight zero bytes mean no target"
unfoldable pub target_bytes : Target → List ℕ
target_bytes t = cond t.present (present_bytes t) (replicate 8 0)

abbrev pub targets_bytes : List Target → List ℕ
targets_bytes [] = []
targets_bytes (t ∷ ts) = target_bytes t ++ targets_bytes ts

abbrev pub targets_frame : List Target → List ℕ
targets_frame ts = framed (targets_bytes ts)

-- "-32,768, and a field not 0 in an absent target, get 6"
unfoldable pub writable : Target → Bool
writable t = cond t.present
    (sayable t.x && (sayable t.y && sayable t.speed))
    (is_zero t.x && (is_zero t.y && (is_zero t.speed && eqb t.resolution 0)))

abbrev pub all_writable : List Target → Bool
all_writable ts = list_all writable ts

abbrev pub unrepresentable : List Target → Option Error
unrepresentable ts = unless (all_writable ts) Unrepresentable

pub data Unsayable : Target → Type 0 where
  -- "-32,768": in a signed field of a present target
  lowest_x : (t : Target) → t.present ≡ true → t.x ≡ neg_ℤ (pos 32768) → Unsayable t
  lowest_y : (t : Target) → t.present ≡ true → t.y ≡ neg_ℤ (pos 32768) → Unsayable t
  lowest_speed : (t : Target) → t.present ≡ true → t.speed ≡ neg_ℤ (pos 32768) → Unsayable t
  -- "and a field not 0 in an absent target"
  left_x : (t : Target) → t.present ≡ false → t.x ≢ pos 0 → Unsayable t
  left_y : (t : Target) → t.present ≡ false → t.y ≢ pos 0 → Unsayable t
  left_speed : (t : Target) → t.present ≡ false → t.speed ≢ pos 0 → Unsayable t
  left_resolution : (t : Target) → t.present ≡ false → t.resolution ≢ 0 → Unsayable t

pub data SomeUnsayable : List Target → Type 0 where
  here : (t : Target) (ts : List Target) → Unsayable t → SomeUnsayable (t ∷ ts)
  later : (t : Target) (ts : List Target) → SomeUnsayable ts → SomeUnsayable (t ∷ ts)
