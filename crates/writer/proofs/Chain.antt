-- Puts one after the other: each extends what was put before it.
--   Put out i b n left   the bytes b are put into the buffer out from place i up to place n, and it then holds left
use mathlib.Core.Path.{◌≡◌, refl, sym, ap, ◌∙◌}
use mathlib.Core.List.{List, [], ◌++◌, append_assoc, append-nil}
use Prim.Native.Nat.{ℕ, ◌+◌, ◌≤◌}
use native.Mathlib.Omega.{arith}
use lib.ListN.{length, take, drop, length-append, length-drop, take-append-drop}
use lib.Seq.{take-length, take-append_seam, drop-append-add, drop-drop, length-take-le}
use Rattle.wire.specs.Prefix.{over}
use Rattle.writer.specs.Put.{put_in}
use Rattle.writer.specs.Written.{written}
use Rattle.writer.proofs.PutFits.{put_fits}

-- Nothing is written yet.
pub written_nil : (out : List ℕ) → written out [] ≡ out
unfolding written
written_nil out = refl

pub written_length : (out f : List ℕ) → length f ≤ length out → length (written out f) ≡ length out
unfolding written
written_length out f h = simp (length-append, length-drop) (omega arith)

-- What is written is at the front; writing a buffer's own front changes nothing.
pub written_front : (out f : List ℕ) → take (length f) (written out f) ≡ f
unfolding written
written_front out f = take-append_seam f (drop (length f) out)

front_written : (out : List ℕ) (i : ℕ) → i ≤ length out → written out (take i out) ≡ out
unfolding written
front_written out i h = rw (length-take-le i out h) (take-append-drop i out)

over_after : (out p b : List ℕ) → over (written out p) (length p) b (length b) ≡ written out (p ++ b)
unfolding over written
over_after out p b =
    rw (
      take-append_seam p (drop (length p) out),
      take-length b,
      drop-append-add p (drop (length p) out) (length b),
      drop-drop (length b) (length p) out,
      length-append p b,
    )

-- A put after what is written extends it.
pub put_after : (out p b : List ℕ) → length p + length b ≤ length out
    → put_in (written out p) (length p) b ≡ written out (p ++ b)
put_after out p b h =
    let l = written_length out p (omega arith) in
    put_fits (written out p) (length p) b (omega arith) ∙ over_after out p b

pub record Put (out : List ℕ) (i : ℕ) (b : List ℕ) (n : ℕ) (left : List ℕ) : Type 0 where
  pub ends : n ≡ i + length b
  pub room : n ≤ length out
  pub holds : left ≡ put_in out i b

-- A put at place i writes the buffer's first i bytes, then the new ones.
put_front : (out : List ℕ) (i : ℕ) (b : List ℕ) → i + length b ≤ length out
    → put_in out i b ≡ written out (take i out ++ b)
put_front out i b h =
    let n = length-take-le i out (omega arith) in
    let e = put_after out (take i out) b (omega arith) in
    rw (front_written out i (omega arith), n) at e

-- No bytes put, at any place.
pub put_nil : (out : List ℕ) (i : ℕ) → i ≤ length out → Put out i [] i out
put_nil out i h = record {
  ends = omega arith;
  room = h;
  holds = sym (put_front out i [] (omega arith) ∙ rw append-nil (front_written out i h));
}

-- One more put, where the last ended.
pub put_next : {out : List ℕ} {i : ℕ} {a : List ℕ} {n : ℕ} {mid : List ℕ} → Put out i a n mid
    → (b : List ℕ) (m : ℕ) {left : List ℕ} → left ≡ put_in mid n b → m ≡ n + length b → m ≤ length out
    → Put out i (a ++ b) m left
put_next {out} {i} {a} {n} {mid} h b m e q l =
    let t = length-take-le i out (omega arith) in
    let k = length-append (take i out) a in
    let s = length-append a b in
    let after : n ≡ length (take i out ++ a) = omega arith in
    let first : mid ≡ written out (take i out ++ a) = h.holds ∙ put_front out i a (omega arith) in
    let both = rw (first, after) at e ∙ put_after out (take i out ++ a) b (omega arith) in
    record {
      ends = omega arith;
      room = l;
      holds = both ∙ ap (written out) (append_assoc (take i out) a b) ∙ sym (put_front out i (a ++ b) (omega arith));
    }

-- Bytes put at place 0 are written, and are the front.
module _ {out f : List ℕ} {n : ℕ} {left : List ℕ} (h : Put out 0 f n left) where
  pub put_written : left ≡ written out f
  put_written = h.holds ∙ put_front out 0 f (omega arith)

  pub put_taken : take n left ≡ f
  put_taken = let e : n ≡ length f = omega arith in rw (e, put_written) (written_front out f)
