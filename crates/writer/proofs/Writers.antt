-- What a writer answers and leaves, in its three cases, and the cause of each number.
use mathlib.Core.Path.{◌≡◌, refl, sym}
use mathlib.Core.Logic.{inl, inr}
use mathlib.Core.List.{List}
use mathlib.Core.Bool.{Bool, true, false}
use Prim.Native.Nat.{ℕ, ◌≤◌, ◌<◌}
use native.Mathlib.Omega.{arith}
use lib.Dec.{leb}
use lib.ListN.{length}
use borrow.Author.Tests.{le-leb, lt-leb, leb-true, leb-false}
use Rattle.std.specs.Prelude.{Some, None, Ok, Err}
use Rattle.std.specs.declared.option.Option.{Option}
use Rattle.std.specs.declared.result.Result.{Result}
use Rattle.refusal.specs.Refusal.{number_of, needed_of, or_error}
use Rattle.refusal.specs.declared.Error.{Error}
use Rattle.refusal.specs.declared.Error.TheVariants.{InvalidFormat, Unsupported, Hardware, BufferTooSmall}
use Rattle.refusal.specs.declared.Error.TheVariants.{UnknownCommand, Unrepresentable}
use Rattle.writer.specs.Written.{written, unless, changed, write_result, buffer_after, WriteCauses}

-- A writer of the frame f into out answers r and leaves the buffer left; w is the refusal of the value, if any.
abbrev pub Wrote : Option Error → List ℕ → List ℕ → Result ℕ Error → List ℕ → Type 0
Wrote w f out r left = (r ≡ write_result w f (length out)) × (left ≡ buffer_after w f out)

module _ (f out : List ℕ) where
  pub wrote_refused : (e : Error) → Wrote (Some e) f out (Err e) out
  unfolding write_result buffer_after
  wrote_refused e = (refl, refl)

  pub wrote_short : (n : ℕ) → n ≡ length f → length out < n → Wrote None f out (Err (BufferTooSmall n)) out
  unfolding write_result buffer_after
  wrote_short n q h = let e = lt-leb (length f) (length out) (omega arith) in (rw (q, e), rw e)

  pub wrote_whole : (n : ℕ) (left : List ℕ) → n ≡ length f → n ≤ length out → left ≡ written out f
      → Wrote None f out (Ok n) left
  unfolding write_result buffer_after
  wrote_whole n left q h w = let e = le-leb (length f) (length out) (omega arith) in (rw (q, e), rw e w)

-- A value that is not refused passed its test.
pub none_good : (b : Bool) (e : Error) → unless b e ≡ None → b ≡ true
none_good true e h = refl
none_good false e h = let z : ◌≡◌ {A = ℕ} 0 1 = cc in absurd (omega arith)

-- If nothing is refused, the value is good, the frame fits, and the whole frame is written.
pub record WroteAll (w : Option Error) (f out left : List ℕ) (n : ℕ) : Type 0 where
  pub good : w ≡ None
  pub fits : length f ≤ length out
  pub size : n ≡ length f
  pub content : left ≡ written out f

module _ (f out left : List ℕ) (n : ℕ) where
  all_by_length : (b : Bool) → leb (length f) (length out) ≡ b
      → Ok n ≡ or_error (unless b (BufferTooSmall (length f))) (length f)
      → left ≡ changed (unless b (BufferTooSmall (length f))) (written out f) out → WroteAll None f out left n
  all_by_length true q t l = record { good = refl; fits = leb-true (length f) (length out) q; size = cc; content = l }
  all_by_length false q t l = let z : ◌≡◌ {A = ℕ} 0 1 = cc in absurd (omega arith)

  pub wrote_all : (w : Option Error) → Wrote w f out (Ok n) left → WroteAll w f out left n
  unfolding write_result buffer_after
  wrote_all None h = all_by_length (leb (length f) (length out)) refl h.0 h.1
  wrote_all (Some e) h = let t = h.0 in let z : ◌≡◌ {A = ℕ} 0 1 = cc in absurd (omega arith)

-- Only refusal 4 has bytes needed beside it.
needed_none : (e : Error) → (number_of e ≡ 4 → ⊥) → needed_of e ≡ 0
needed_none InvalidFormat h = refl
needed_none Unsupported h = refl
needed_none Hardware h = refl
needed_none (BufferTooSmall n) h = absurd (h refl)
needed_none UnknownCommand h = refl
needed_none Unrepresentable h = refl

-- A writer that refuses with e, unless its value is good, gives each number exactly in its cause.
module _ (e : Error) (e-apart : number_of e ≡ 4 → ⊥) (e-some : number_of e ≡ 0 → ⊥) (f : List ℕ) (n : ℕ) where
  abbrev Caused : Bool → Result ℕ Error → Type 0
  Caused good r = WriteCauses (number_of e) (good ≡ false) f n r

  good_not_bad : true ≡ false → ⊥
  good_not_bad q = let z : ◌≡◌ {A = ℕ} 0 1 = cc in omega arith

  caused_bad : Caused false (Err e)
  caused_bad = record {
    accepted = (λ z. absurd (e-some z), λ h. absurd (h.0 refl));
    refused = (λ z. refl, λ h. refl);
    short = (λ z. absurd (e-apart z), λ h. absurd (h.0 refl));
    returned = inr (inl (rw (needed_none e e-apart)));
  }

  caused_short : n < length f → Caused true (Err (BufferTooSmall (length f)))
  caused_short h = record {
    accepted = (λ z. absurd (omega arith), λ k. absurd (omega arith));
    refused = (λ z. absurd (e-apart (sym z)), λ k. absurd (good_not_bad k));
    short = (λ z. (good_not_bad, h), λ k. refl);
    returned = inr (inr refl);
  }

  caused_whole : length f ≤ n → Caused true (Ok (length f))
  caused_whole h = record {
    accepted = (λ z. (good_not_bad, h), λ k. refl);
    refused = (λ z. absurd (e-some (sym z)), λ k. absurd (good_not_bad k));
    short = (λ z. absurd (omega arith), λ k. absurd (omega arith));
    returned = inl refl;
  }

  caused_good : (b : Bool) → leb (length f) n ≡ b
      → Caused true (or_error (unless b (BufferTooSmall (length f))) (length f))
  caused_good true h = caused_whole (leb-true (length f) n h)
  caused_good false h = caused_short (leb-false (length f) n h)

  pub write_causes : (good : Bool) → Caused good (write_result (unless good e) f n)
  unfolding write_result
  write_causes true = caused_good (leb (length f) n) refl
  write_causes false = caused_bad

-- What the contract of such a writer asks: its answer, its buffer, and the causes, which follow from these.
abbrev pub Shown : Error → Bool → List ℕ → List ℕ → Result ℕ Error → List ℕ → Type 0
Shown e good f out r left =
    record {
      told : r ≡ write_result (unless good e) f (length out);
      left : left ≡ buffer_after (unless good e) f out;
      causes : WriteCauses (number_of e) (good ≡ false) f (length out) r;
    }

pub shown : (e : Error) → (number_of e ≡ 4 → ⊥) → (number_of e ≡ 0 → ⊥) → (good : Bool) (f out left : List ℕ)
    {r : Result ℕ Error} → Wrote (unless good e) f out r left → Shown e good f out r left
shown e a b good f out left h =
    record { told = h.0; left = h.1; causes = rw h.0 (write_causes e a b f (length out) good) }
