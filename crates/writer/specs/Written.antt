-- What every writer of a frame answers, and the buffer afterwards.
--   written out f             the buffer out with the frame f written: f, then the bytes of out after it
--   unless b e                the refusal e, unless the test b holds
--   refusal_for w f n        why the frame f is not written into n bytes, if it is not: the refusal w of the value, if
--                             there is one; else 4, with the bytes needed, if f is longer
--   changed o new old         the buffer old if there is a refusal o, else new
--   write_result w f n         the answer: the bytes written, or that refusal
--   buffer_after w f out       the buffer afterwards: with f written, or unchanged
--   returned_write r           what the answer r returns, by document 01's table
--   WriteCauses k Bad f n r   the answer r gives each number exactly in its cause, k to a bad value, with the right
--                             fields beside it
--   framable d, frame_refusal d  "that many data bytes, 0 to 65,535": more are "a value that the reader can't give"; no
--                             writer of the link frames so much
use Rattle.std.specs.Prelude.{◌≡◌, ◌↔◌, ◌⊎◌, List, ◌++◌, Bool, true, false, ℕ, ◌≤◌, ◌<◌, leb, length, drop, Some, None}
use Rattle.std.specs.declared.option.Option.{Option}
use Rattle.std.specs.declared.result.Result.{Result}
use Rattle.refusal.specs.Refusal.{or_error, Returned, refusal_of, returned}
use Rattle.refusal.specs.declared.Error.{Error}
use Rattle.refusal.specs.declared.Error.TheVariants.{BufferTooSmall, Unrepresentable}

unfoldable pub written : List ℕ → List ℕ → List ℕ
written out f = f ++ drop (length f) out

abbrev pub unless : Bool → Error → Option Error
unless true e = None
unless false e = Some e

abbrev pub refusal_for : Option Error → List ℕ → ℕ → Option Error
refusal_for None f n = unless (leb (length f) n) (BufferTooSmall (length f))
refusal_for (Some e) f n = Some e

abbrev pub changed : Option Error → List ℕ → List ℕ → List ℕ
changed None new old = new
changed (Some e) new old = old

unfoldable pub write_result : Option Error → List ℕ → ℕ → Result ℕ Error
write_result w f n = or_error (refusal_for w f n) (length f)

unfoldable pub buffer_after : Option Error → List ℕ → List ℕ → List ℕ
buffer_after w f out = changed (refusal_for w f (length out)) (written out f) out

abbrev pub framable : List ℕ → Bool
framable d = leb (length d) 65535

abbrev pub frame_refusal : List ℕ → Option Error
frame_refusal d = unless (framable d) Unrepresentable

-- "number, other fields 0", "number and bytes needed": beside a refusal no bytes count as written
abbrev pub returned_write : Result ℕ Error → Returned ℕ
returned_write = returned 0

pub record WriteCauses (k : ℕ) (Bad : Type 0) (f : List ℕ) (n : ℕ) (r : Result ℕ Error) : Type 0 where
  -- nothing is refused exactly if the value is good and the frame fits
  pub accepted : refusal_of r ≡ 0 ↔ (Bad → ⊥) × (length f ≤ n)
  -- the value's number is given exactly if the value is bad, whatever the buffer
  pub refused : refusal_of r ≡ k ↔ Bad
  -- 4 is given exactly if the value is good and the buffer is shorter than the frame
  pub short : refusal_of r ≡ 4 ↔ (Bad → ⊥) × (n < length f)
  -- what is returned is the bytes written; or that number, "other fields 0"; or 4 "and bytes needed"
  pub returned : (returned_write r ≡ record { number = 0; needed = 0; value = length f })
      ⊎ ((returned_write r ≡ record { number = k; needed = 0; value = 0 })
      ⊎ (returned_write r ≡ record { number = 4; needed = length f; value = 0 }))
