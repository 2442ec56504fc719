-- A writer that holds the caller's slice: what a put through it answers, and the cursor afterwards.
--   next_at at p   the next place after a put at place at that answered p: after the bytes, or still at
--   told_by n p    the answer if that put answered p: the bytes written so far, or 4 with the n bytes needed in all
--   puts c b      the answer of the put of the bytes b into the slice of the cursor c, at its position
--   told c b      the answer of the cursor c to them
--   moved c b     the cursor afterwards: the same slice, with b put into it, and the next position
use Rattle.std.specs.Prelude.{List, ℕ, Some, None, Ok, Err}
use Rattle.std.specs.declared.option.Option.{Option}
use Rattle.std.specs.declared.result.Result.{Result}
use denote.Ref.{at_last}
use Rattle.refusal.specs.declared.Error.{Error}
use Rattle.refusal.specs.declared.Error.TheVariants.{BufferTooSmall}
use Rattle.writer.specs.Put.{placed, put_in}
use Rattle.cursor.specs.declared.Cursor.{Cursor}

abbrev pub next_at : ℕ → Option ℕ → ℕ
next_at at (Some end) = end
next_at at None = at

abbrev pub told_by : ℕ → Option ℕ → Result ℕ Error
told_by needed (Some end) = Ok end
told_by needed None = Err (BufferTooSmall needed)

abbrev pub puts : Cursor → List ℕ → Option ℕ
puts c b = placed c.out.now c.pos b

abbrev pub told : Cursor → List ℕ → Result ℕ Error
told c b = told_by c.needed (puts c b)

abbrev pub moved : Cursor → List ℕ → Cursor
moved c b = record {
  out = at_last c.out (put_in c.out.now c.pos b);
  pos = next_at c.pos (puts c b);
  needed = c.needed;
}
