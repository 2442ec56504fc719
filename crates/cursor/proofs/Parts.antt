-- Parts put through a cursor one after another: if all parts fit, all are written.
use mathlib.Core.Path.{◌≡◌, sym, ap, ◌∙◌}
use mathlib.Core.List.{List, [], ◌∷◌, ◌++◌, append-nil, append_assoc}
use Prim.Native.Nat.{ℕ, ◌+◌, ◌≤◌}
use native.Mathlib.Omega.{arith}
use lib.ListN.{length, length-append}
use Rattle.std.specs.Prelude.{Some, Ok}
use Rattle.std.specs.declared.result.Result.{Result}
use Rattle.refusal.specs.declared.Error.{Error}
use Rattle.writer.specs.Put.{placed, put_in}
use Rattle.writer.specs.Written.{written}
use Rattle.writer.proofs.PutFits.{placed_fits}
use Rattle.writer.proofs.Chain.{written_nil, written_length, put_after}
use Rattle.cursor.specs.Held.{told, moved}
use Rattle.cursor.specs.Parts.{if_put, told_all, moved_all, joined}
use Rattle.cursor.specs.declared.Cursor.{Cursor}

-- A put that was made goes on.
put_made : {A : Type 0} {r : Result ℕ Error} {n : ℕ} → r ≡ Ok n → (a b : A) → if_put r a b ≡ a
put_made e a b = rw e

module _ (out : List ℕ) where
  -- The cursor c has written the bytes p.
  record Holds (p : List ℕ) (c : Cursor) : Type 0 where
    content : c.out.now ≡ written out p
    place : c.pos ≡ length p

  -- What the cursor c answers to the parts bs after bytes p, and leaves.
  record Puts (p : List ℕ) (bs : List (List ℕ)) (c : Cursor) : Type 0 where
    answer : told_all c bs ≡ Ok (length (p ++ joined bs))
    left : (moved_all c bs).out.now ≡ written out (p ++ joined bs)

  parts_after : (p : List ℕ) (bs : List (List ℕ)) (c : Cursor) → Holds p c
      → length p + length (joined bs) ≤ length out → Puts p bs c
  parts_after p [] c h l = record { answer = rw (h.place, append-nil); left = rw (h.content, append-nil) }
  parts_after p (b ∷ bs) c h l =
      let n = length-append b (joined bs) in
      let m = written_length out p (omega arith) in
      let k = length-append p b in
      let e : placed c.out.now c.pos b ≡ Some (length (p ++ b)) =
      rw (h.content, h.place, k) (placed_fits (written out p) (length p) b (omega arith)) in
      let t : told c b ≡ Ok (length (p ++ b)) = rw e in
      let w : put_in c.out.now c.pos b ≡ written out (p ++ b) =
      rw (h.content, h.place) (put_after out p b (omega arith)) in
      let next = parts_after (p ++ b) bs (moved c b) (record { content = w; place = rw e }) (omega arith) in
      record {
        answer = put_made t _ _ ∙ rw (← append_assoc p b (joined bs)) next.answer;
        left = ap (λ (d : Cursor). d.out.now) (put_made t _ _) ∙ rw (← append_assoc p b (joined bs)) next.left;
      }

  pub parts_written : (bs : List (List ℕ)) (c : Cursor) → c.out.now ≡ out → c.pos ≡ 0
      → length (joined bs) ≤ length out
      → (told_all c bs ≡ Ok (length (joined bs))) × ((moved_all c bs).out.now ≡ written out (joined bs))
  parts_written bs c e p h =
      let x = parts_after [] bs c (record { content = e ∙ sym (written_nil out); place = p }) (omega arith) in
      (x.answer, x.left)
