-- The first check that fails: it fails, those before it hold, and each number has exactly its cause.
use mathlib.Core.Path.{◌≡◌, refl, ap}
use mathlib.Core.Logic.{◌≢◌, ◌⊎◌, inl, inr, ⊎_elim}
use mathlib.Core.List.{List, [], ◌∷◌, ◌++◌}
use mathlib.Core.Bool.{Bool, true, false}
use Prim.Native.Nat.{ℕ}
use native.Mathlib.Omega.{arith}
use Rattle.refusal.specs.Refusal.{accepted, refused, or_error, returned}
use Rattle.refusal.specs.declared.Error.{Error}
use Rattle.refusal.specs.declared.Error.TheVariants.{InvalidFormat, Unsupported}
use Rattle.refusal.specs.Check.{Checks, or_failed, first_failed, Passes, FailsFirst, error_of, checked_by, told_by}
use Rattle.refusal.specs.Check.{Causes}
use Rattle.refusal.specs.declared.Check.{Check}
use Rattle.refusal.specs.declared.Check.TheVariants.{F1, F2, F3, F4, R1, R2, R3, R4, R5, R6, R7, R8, A1, A2}
use Rattle.std.specs.Prelude.{Some, None, Err}
use Rattle.std.specs.declared.option.Option.{Option}
use Rattle.std.specs.declared.result.Result.{Result}

module _ (s : List ℕ) where
  pub passes_complete : (cs : Checks) → Passes cs s → first_failed cs s ≡ None
  passes_complete [] h = refl
  passes_complete (x ∷ cs) h = rw h.0 (passes_complete cs h.1)

  pub passes_sound : (cs : Checks) → first_failed cs s ≡ None → Passes cs s
  passes_sound [] e = tt
  passes_sound (x ∷ cs) e = go (x.1 s) refl (λ h. passes_sound cs h) e
    where
      go : (b : Bool) → x.1 s ≡ b → (first_failed cs s ≡ None → Passes cs s)
          → or_failed b x.0 (first_failed cs s) ≡ None → (x.1 s ≡ true) × Passes cs s
      go true h more e = (h, more e)
      go false h more e = let z : ◌≡◌ {A = ℕ} 0 1 = cc in absurd (omega arith)

  pub fails_complete : (cs : Checks) (c : Check) → FailsFirst cs c s → first_failed cs s ≡ Some c
  fails_complete cs c h = rw h.split (go h.before h.held)
    where
      go : (before : Checks) → Passes before s → first_failed (before ++ ((c, h.test) ∷ h.after)) s ≡ Some c
      go [] p = rw h.failed
      go (x ∷ cs) p = rw p.0 (go cs p.1)

  -- Another check in front, which holds, does not change the first failed check.
  after_held : (x : Check × (List ℕ → Bool)) (cs : Checks) (c : Check) → x.1 s ≡ true → FailsFirst cs c s
      → FailsFirst (x ∷ cs) c s
  after_held x cs c e h = record {
    before = x ∷ h.before;
    test = h.test;
    after = h.after;
    split = ap (λ l. x ∷ l) h.split;
    held = (e, h.held);
    failed = h.failed;
  }

  pub fails_sound : (cs : Checks) (c : Check) → first_failed cs s ≡ Some c → FailsFirst cs c s
  fails_sound [] c e = let z : ◌≡◌ {A = ℕ} 0 1 = cc in absurd (omega arith)
  fails_sound (x ∷ cs) c e = go (x.1 s) refl (λ h. fails_sound cs c h) e
    where
      go : (b : Bool) → x.1 s ≡ b → (first_failed cs s ≡ Some c → FailsFirst cs c s)
          → or_failed b x.0 (first_failed cs s) ≡ Some c → FailsFirst (x ∷ cs) c s
      go true h more e = after_held x cs c h (more e)
      go false h more e = let q : x.0 ≡ c = cc in
          record { before = []; test = x.1; after = cs; split = rw q; held = tt; failed = h }

-- Checks cs before checks ds: the first of cs that fails is the first of all; if none of cs fails, ds decide.
module _ (s : List ℕ) (ds : Checks) where
  pub failed_before : (cs : Checks) (c : Check) → first_failed cs s ≡ Some c
      → first_failed (cs ++ ds) s ≡ Some c
  failed_before [] c e = let z : ◌≡◌ {A = ℕ} 0 1 = cc in absurd (omega arith)
  failed_before (x ∷ cs) c e = go (x.1 s) (λ h. failed_before cs c h) e
    where
      go : (b : Bool) → (first_failed cs s ≡ Some c → first_failed (cs ++ ds) s ≡ Some c)
          → or_failed b x.0 (first_failed cs s) ≡ Some c
          → or_failed b x.0 (first_failed (cs ++ ds) s) ≡ Some c
      go true more e = more e
      go false more e = e

  pub passed_before : (cs : Checks) → first_failed cs s ≡ None → first_failed (cs ++ ds) s ≡ first_failed ds s
  passed_before [] e = refl
  passed_before (x ∷ cs) e = go (x.1 s) (λ h. passed_before cs h) e
    where
      go : (b : Bool) → (first_failed cs s ≡ None → first_failed (cs ++ ds) s ≡ first_failed ds s)
          → or_failed b x.0 (first_failed cs s) ≡ None
          → or_failed b x.0 (first_failed (cs ++ ds) s) ≡ first_failed ds s
      go true more e = more e
      go false more e = let z : ◌≡◌ {A = ℕ} 0 1 = cc in absurd (omega arith)

-- Every check but R6 gives refusal 1.
given : (c : Check) → (error_of c ≡ InvalidFormat) ⊎ (c ≡ R6)
given F1 = inl refl
given F2 = inl refl
given F3 = inl refl
given F4 = inl refl
given R1 = inl refl
given R2 = inl refl
given R3 = inl refl
given R4 = inl refl
given R5 = inl refl
given R6 = inr refl
given R7 = inl refl
given R8 = inl refl
given A1 = inl refl
given A2 = inl refl

-- R6 gives refusal 2, so a check that gives 1 is not R6.
other_than_R6 : (c : Check) → error_of c ≡ InvalidFormat → c ≢ R6
other_than_R6 c e q = let z : ◌≡◌ {A = ℕ} 0 1 = cc (ap error_of q) in absurd (omega arith)

-- The error that an answer by an error gives.
pub error_told : {A E : Type 0} (o : Option E) (v : A) {c : E} → or_error o v ≡ Err c → o ≡ Some c
error_told (Some d) v {c} e = let q : d ≡ c = cc in rw q
error_told None v e = let z : ◌≡◌ {A = ℕ} 0 1 = cc in absurd (omega arith)

-- The causes, by the first failed check.
module _ (cs : Checks) (s : List ℕ) where
  -- The first failed check is one check, or none.
  none_not_some : {c : Check} → first_failed cs s ≡ None → first_failed cs s ≡ Some c → ⊥
  none_not_some e q = let z : ◌≡◌ {A = ℕ} 0 1 = cc in omega arith

  one_check : {c d : Check} → first_failed cs s ≡ Some c → first_failed cs s ≡ Some d → c ≡ d
  one_check e q = cc

  module _ {A : Type 0} (z v : A) where
    passed : first_failed cs s ≡ None → Causes z cs s (accepted v)
    passed e = record {
      accepted = (λ n. passes_sound s cs e, λ h. refl);
      invalid = (λ n. absurd (omega arith), λ h. absurd (none_not_some e (fails_complete s cs h.0 h.1)));
      unsupported = (λ n. absurd (omega arith), λ h. absurd (none_not_some e (fails_complete s cs R6 h)));
      total = inl refl;
      blank = λ n. absurd (n refl);
    }

    failed_R6 : first_failed cs s ≡ Some R6 → Causes z cs s (refused z Unsupported)
    failed_R6 e = record {
      accepted = (λ n. absurd (omega arith), λ h. absurd (none_not_some (passes_complete s cs h) e));
      invalid = (λ n. absurd (omega arith), λ h. absurd (h.2 (one_check (fails_complete s cs h.0 h.1) e)));
      unsupported = (λ n. fails_sound s cs R6 e, λ h. refl);
      total = inr (inr refl);
      blank = λ n. refl;
    }

    failed_other : (c : Check) → c ≢ R6 → first_failed cs s ≡ Some c → Causes z cs s (refused z InvalidFormat)
    failed_other c other e = record {
      accepted = (λ n. absurd (omega arith), λ h. absurd (none_not_some (passes_complete s cs h) e));
      invalid = (λ n. (c, fails_sound s cs c e, other), λ h. refl);
      unsupported = (λ n. absurd (omega arith), λ h. absurd (other (one_check e (fails_complete s cs R6 h))));
      total = inr (inl refl);
      blank = λ n. refl;
    }

    causes_of : (o : Option Check) → first_failed cs s ≡ o → Causes z cs s (returned z (told_by (or_error o v)))
    causes_of (Some c) e =
        ⊎_elim (λ i. rw i (failed_other c (other_than_R6 c i) e)) (λ q. rw q (failed_R6 (rw q at e))) (given c)
    causes_of None e = passed e

    -- A reader that answers by its first failed check gives each number exactly in its cause; beside a refusal every
    -- other field is 0.
    pub causes : Causes z cs s (returned z (told_by (or_error (first_failed cs s) v)))
    causes = causes_of (first_failed cs s) refl

    -- The same for the code's answer r.
    pub causes_told : (r : Result A Error) → r ≡ told_by (checked_by cs s v) → Causes z cs s (returned z r)
    causes_told r e = rw e causes
