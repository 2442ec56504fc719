-- Which farthest gates the module takes (2 to 8, both of them), and which gates and sensitivities; the encoder gives 2
-- for exactly the others.
use mathlib.Core.Path.{◌≡◌, refl}
use mathlib.Core.Logic.{◌↔◌, ◌⊎◌, inl, inr, ⊎_elim, ⊎_map}
use mathlib.Core.Bool.{Bool, true, false, ◌&&◌, and-eq-true_iff, true≢false}
use mathlib.Core.List.{List}
use Prim.Native.Nat.{ℕ, ◌≤◌}
use lib.Dec.{leb}
use borrow.Author.Tests.{lt-leb, leb-true, leb-false}
use Rattle.writer.specs.Written.{WriteCauses}
use Rattle.std.specs.declared.result.Result.{Result}
use Rattle.refusal.specs.declared.Error.{Error}
use Rattle.command.specs.Setting.{farthest, gate_known, sensitivity}
use Rattle.command.specs.Command.{encodable}
use Rattle.command.specs.Claims.{Outside, FarthestGates, Missing, TooHigh, Sensitivities}
use Rattle.command.specs.declared.Command.{Command}
use Rattle.command.specs.declared.Command.TheVariants.{SetMaxGates, SetSensitivity}
use Rattle.command.specs.declared.setting.Gate.{Gate}
use Rattle.command.specs.declared.setting.Gate.TheVariants.{Index, All}
use Rattle.command.proofs.Frames.{gates_encodable}

-- A conjunction of two tests fails exactly if one of them does.
pub and_eq_false_iff : (a b : Bool) → ((a && b) ≡ false) ↔ (a ≡ false) ⊎ (b ≡ false)
and_eq_false_iff true b = (inr, ⊎_elim (λ t. absurd (true≢false t)) (λ f. f))
and_eq_false_iff false b = (λ f. inl refl, λ f. refl)

-- A gate that may not be the farthest is outside, and the other way round.
refused_outside : (i : ℕ) → farthest i ≡ false → Outside i
refused_outside i e = ⊎_map (leb-false 2 i) (leb-false i 8) ((and_eq_false_iff (leb 2 i) (leb i 8)).0 e)

pub outside_refused : (i : ℕ) → Outside i → farthest i ≡ false
outside_refused i h = (and_eq_false_iff (leb 2 i) (leb i 8)).1 (⊎_map (lt-leb 2 i) (lt-leb i 8) h)

pub farthest_most : (i : ℕ) → farthest i ≡ true → i ≤ 8
farthest_most i e = leb-true i 8 ((and-eq-true_iff (leb 2 i) (leb i 8)).0 e).1

module _ (m s n : ℕ) (h : n ≤ 65535) where
  refused_gates : (farthest m && farthest s) ≡ false → Outside m ⊎ Outside s
  refused_gates e = ⊎_map (refused_outside m) (refused_outside s) ((and_eq_false_iff (farthest m) (farthest s)).0 e)

  gates_refused : Outside m ⊎ Outside s → (farthest m && farthest s) ≡ false
  gates_refused o = (and_eq_false_iff (farthest m) (farthest s)).1 (⊎_map (outside_refused m) (outside_refused s) o)

  pub unsupported_gates : (encodable (SetMaxGates m s n) ≡ false) ↔ Outside m ⊎ Outside s
  unsupported_gates = rw (gates_encodable m s n h) (refused_gates, gates_refused)

-- The encoder gives 2 to a `SetMaxGates` for exactly these.
pub farthest_gates : (c : Command) (f : List ℕ) (k : ℕ) {r : Result ℕ Error} → WriteCauses 2 (encodable c ≡ false) f k r
    → FarthestGates c r
farthest_gates c f k w m s n h e =
    let g = unsupported_gates m s n h in
    let b = rw e at w.refused in
    (λ q. g.0 (b.0 q), λ o. b.1 (g.1 o))

-- The same for a `SetSensitivity`.
missing : (g : Gate) → gate_known g ≡ false ↔ Missing g
missing (Index i) = (leb-false i 8, lt-leb i 8)
missing All = (λ e. absurd (true≢false e), λ h. absurd h)

module _ (g : Gate) (m s : ℕ) where
  abbrev high : Type 0
  high = TooHigh m ⊎ TooHigh s

  refused_values : encodable (SetSensitivity g m s) ≡ false → Missing g ⊎ high
  refused_values e =
      ⊎_map (missing g).0
      (λ b. ⊎_map (leb-false m 100) (leb-false s 100) ((and_eq_false_iff (sensitivity m) (sensitivity s)).0 b))
      ((and_eq_false_iff (gate_known g) (sensitivity m && sensitivity s)).0 e)

  values_refused : Missing g ⊎ high → encodable (SetSensitivity g m s) ≡ false
  values_refused h =
      (and_eq_false_iff (gate_known g) (sensitivity m && sensitivity s)).1
      (⊎_map (missing g).1
      (λ b. (and_eq_false_iff (sensitivity m) (sensitivity s)).1 (⊎_map (lt-leb m 100) (lt-leb s 100) b)) h)

pub sensitivities : (c : Command) (f : List ℕ) (k : ℕ) {r : Result ℕ Error} → WriteCauses 2 (encodable c ≡ false) f k r
    → Sensitivities c r
sensitivities c f k w g m s e =
    let b = rw e at w.refused in
    (λ q. refused_values g m s (b.0 q), λ o. b.1 (values_refused g m s o))
