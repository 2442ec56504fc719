-- Frames of a fixed length: each place holds a given byte, or any byte. They make a framing.
--   begins xs s   the string s is the beginning of a frame of the pattern xs
--   fills xs s    s is a frame of the pattern xs
--   fixed x xs    the tests of the pattern x, xs
use mathlib.Core.List.{List, [], ◌∷◌, ◌++◌}
use mathlib.Core.Bool.{Bool, true, false, ◌&&◌}
use mathlib.Core.Option.{Option, none, some}
use Prim.Native.Nat.{ℕ}
use lib.Dec.{T, eqb}
use Rattle.framing.proofs.Tests.{Tests, T_and}

abbrev pub agrees : Option ℕ → ℕ → Bool
agrees none b = true
agrees (some x) b = eqb x b

abbrev pub begins : List (Option ℕ) → List ℕ → Bool
begins xs [] = true
begins [] (b ∷ s) = false
begins (x ∷ xs) (b ∷ s) = agrees x b && begins xs s

abbrev pub fills : List (Option ℕ) → List ℕ → Bool
fills [] [] = true
fills [] (b ∷ s) = false
fills (x ∷ xs) [] = false
fills (x ∷ xs) (b ∷ s) = agrees x b && fills xs s

pub begins_prefix : (xs : List (Option ℕ)) (s t : List ℕ) → T (begins xs (s ++ t)) → T (begins xs s)
begins_prefix xs [] t h = tt
begins_prefix [] (b ∷ s) t h = h
begins_prefix (x ∷ xs) (b ∷ s) t h =
    let p = (T_and (agrees x b) (begins xs (s ++ t))).0 h in
    (T_and (agrees x b) (begins xs s)).1 (p.0, begins_prefix xs s t p.1)

pub fills_begins : (xs : List (Option ℕ)) (s : List ℕ) → T (fills xs s) → T (begins xs s)
fills_begins xs [] h = tt
fills_begins [] (b ∷ s) h = h
fills_begins (x ∷ xs) (b ∷ s) h =
    let p = (T_and (agrees x b) (fills xs s)).0 h in
    (T_and (agrees x b) (begins xs s)).1 (p.0, fills_begins xs s p.1)

pub fills_ends : (xs : List (Option ℕ)) (s : List ℕ) (b : ℕ) → T (fills xs s) → T (begins xs (s ++ (b ∷ []))) → ⊥
fills_ends [] [] b h o = o
fills_ends [] (c ∷ s) b h o = h
fills_ends (x ∷ xs) [] b h o = h
fills_ends (x ∷ xs) (c ∷ s) b h o =
    fills_ends xs s b ((T_and (agrees x c) (fills xs s)).0 h).1 ((T_and (agrees x c) (begins xs (s ++ (b ∷ [])))).0 o).1

abbrev pub fixed : Option ℕ → List (Option ℕ) → Tests
fixed x xs = record {
  opens = begins (x ∷ xs);
  wholes = fills (x ∷ xs);
  laws = record {
    empty_open = tt;
    empty_not_whole = λ h. h;
    open_prefix = begins_prefix (x ∷ xs);
    whole_open = fills_begins (x ∷ xs);
    whole_ends = fills_ends (x ∷ xs);
  };
}
