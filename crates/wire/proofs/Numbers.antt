-- Numbers on the wire, at any width: all the bytes are there and make the number, or some are missing.
use mathlib.Core.Path.{◌≡◌, refl, sym, ◌∙◌}
use mathlib.Core.List.{List, [], ◌∷◌, ◌++◌}
use mathlib.Core.Bool.{Bool, true, cond}
use Rattle.std.specs.Prelude.{Some, None}
use Rattle.std.specs.declared.option.Option.{Option}
use Rattle.std.specs.Option.{option_copied}
use Rattle.std.specs.Slice.{IsItemAt}
use denote.Ref.{Bor}
use Prim.Native.Nat.{ℕ, ◌+◌, ◌*◌, ◌^◌, ◌≤◌, ◌<◌}
use native.Mathlib.Nat.{pow-suc}
use native.Mathlib.Omega.{arith}
use lib.Dec.{leb}
use lib.ListN.{length, get_or, take, drop, length-take, length-drop}
use lib.Seq.{drop-cons, take-add, drop-drop}
use borrow.Author.Tests.{le-leb, lt-leb, leb-true, leb-false}
use Rattle.wire.proofs.Conditions.{cond-true, cond-false}
use Rattle.wire.specs.Number.{little, number_at, byte_at}

-- The n bytes of s from place i on are all there, and make the number x.
pub record There (n : ℕ) (s : List ℕ) (i x : ℕ) : Type 0 where
  pub inside : i + n ≤ length s
  pub value : x ≡ little (take n (drop i s))

-- The number that two joined strings make.
pub little_append : (a b : List ℕ) → little (a ++ b) ≡ little a + 256 ^ length a * little b
little_append [] b = omega arith
little_append (x ∷ a) b = rw (pow-suc 256 (length a)) (omega (arith, little_append a b))

-- Two numbers side by side make one.
pub there_append : (m n : ℕ) (s : List ℕ) (i x y : ℕ) → There m s i x → There n s (i + m) y
    → There (m + n) s i (x + 256 ^ m * y)
there_append m n s i x y h k =
    let l : length (take m (drop i s)) ≡ m = simp (length-take, length-drop) (omega arith) in
    record {
      inside = omega arith;
      value = rw (
        take-add m n (drop i s),
        drop-drop m i s,
        little_append (take m (drop i s)) (take n (drop (i + m) s)),
        l,
        h.value,
        k.value,
      );
    }

-- A byte is a number of one byte.
pub there_one : (s : List ℕ) (i : ℕ) → i < length s → There 1 s i (get_or s i 0)
there_one s i h = record { inside = omega arith; value = rw (drop-cons s i 0 h) (omega arith) }

pub there_byte : (s : List ℕ) (i : ℕ) {x : ℕ} → There 1 s i x → x ≡ get_or s i 0
there_byte s i h = h.value ∙ sym (there_one s i (omega arith)).value

module _ (n : ℕ) (s : List ℕ) (i : ℕ) where
  abbrev inside : Bool
  inside = leb (i + n) (length s)

  abbrev value : ℕ
  value = little (take n (drop i s))

  read_cond : number_at n s i ≡ cond inside (Some value) None
  unfolding number_at
  read_cond = refl

  -- The answer if all bytes are there, and if some are missing; and what each answer says of the bytes.
  pub read_there : {x : ℕ} → There n s i x → number_at n s i ≡ Some x
  read_there h = read_cond ∙ rw (le-leb (i + n) (length s) h.inside, h.value)

  pub read_missing : length s < i + n → number_at n s i ≡ None
  read_missing h = read_cond ∙ rw (lt-leb (i + n) (length s) h)

  pub read_some : {x : ℕ} → number_at n s i ≡ Some x → There n s i x
  read_some {x} e =
      let told = sym read_cond ∙ e in
      let t = cond-true inside (Some value) None told (λ q. cc) in
      let held : Some x ≡ Some value = rw t at (sym told) in
      record { inside = leb-true (i + n) (length s) t; value = cc }

  pub read_none : number_at n s i ≡ None → length s < i + n
  read_none e =
      leb-false (i + n) (length s) (cond-false inside (Some value) None (sym read_cond ∙ e) (λ q. cc))

-- The same for the search in a need, which finds the code's answer o: if a number within n bytes is missing, there are
-- fewer than n; if one that ends n bytes in or later is there, there are at least n.
pub read_short : (w : ℕ) (s : List ℕ) (i n : ℕ) (o : Option ℕ) → o ≡ None → o ≡ number_at w s i
    → leb (i + w) n ≡ true → length s < n
read_short w s i n o e q t =
    let gone = read_none w s i (sym q ∙ e) in
    let wanted = leb-true (i + w) n t in
    omega arith

pub read_long : (w : ℕ) (s : List ℕ) (i n : ℕ) (o : Option ℕ) (x : ℕ) → o ≡ Some x → o ≡ number_at w s i
    → leb n (i + w) ≡ true → n ≤ length s
read_long w s i n o x e q t =
    let inside = (read_some w s i (sym q ∙ e)).inside in
    let wanted = leb-true n (i + w) t in
    omega arith

-- What std's `get` and `copied` answer for a byte.
pub byte_got : (s : List ℕ) (i : ℕ) (o : Option (Bor ℕ)) → IsItemAt s i o → option_copied o ≡ byte_at s i
byte_got s i (Some x) h =
    let inside : i < length s = h.3.0 in
    let held : x.now ≡ get_or s i 0 = h.4 (omega arith) 0 in
    rw held (sym (read_there 1 s i (there_one s i inside)))
byte_got s i None h = let past : length s ≤ i = h.3 in sym (read_missing 1 s i (omega arith))

-- A byte that was read is the byte at that place.
pub byte_is : (s : List ℕ) (i : ℕ) {x : ℕ} → byte_at s i ≡ Some x → x ≡ get_or s i 0
byte_is s i e = there_byte s i (read_some 1 s i e)

-- A number of two halves is there if both are, and missing if one is.
module _ (w : ℕ) (s : List ℕ) (i : ℕ) where
  pub first_missing : number_at w s i ≡ None → number_at (w + w) s i ≡ None
  first_missing e = let gone = read_none w s i e in read_missing (w + w) s i (omega arith)

  pub second_missing : number_at w s (i + w) ≡ None → number_at (w + w) s i ≡ None
  second_missing e = let gone = read_none w s (i + w) e in read_missing (w + w) s i (omega arith)

  pub halves_there : (x y : ℕ) → number_at w s i ≡ Some x → number_at w s (i + w) ≡ Some y
      → number_at (w + w) s i ≡ Some (x + 256 ^ w * y)
  halves_there x y e f =
      read_there (w + w) s i (there_append w w s i x y (read_some w s i e) (read_some w s (i + w) f))
