-- Parts put through a cursor one after another, up to the first that does not fit.
--   if_put r a b       a if the put that answered r was made, b if it was refused
--   told_all c bs      the answer of the cursor c: its place after the parts bs, or 4
--   moved_all c bs     the cursor afterwards
--   joined bs          the parts as one byte string
use Rattle.std.specs.Prelude.{List, [], ◌∷◌, ◌++◌, ℕ, Ok, Err}
use Rattle.std.specs.declared.result.Result.{Result}
use Rattle.refusal.specs.declared.Error.{Error}
use Rattle.cursor.specs.Held.{told, moved}
use Rattle.cursor.specs.declared.Cursor.{Cursor}

abbrev pub if_put : {A : Type 0} → Result ℕ Error → A → A → A
if_put (Ok n) a b = a
if_put (Err e) a b = b

abbrev pub told_all : Cursor → List (List ℕ) → Result ℕ Error
told_all c [] = Ok c.pos
told_all c (b ∷ bs) = if_put (told c b) (told_all (moved c b) bs) (told c b)

abbrev pub moved_all : Cursor → List (List ℕ) → Cursor
moved_all c [] = c
moved_all c (b ∷ bs) = if_put (told c b) (moved_all (moved c b) bs) (moved c b)

abbrev pub joined : List (List ℕ) → List ℕ
joined [] = []
joined (b ∷ bs) = b ++ joined bs
