-- What every reply has in common: how a payload is read as one.
--   judged same ok readable   the refusal by three tests: the word is awaited, `ok` is on, the payload is readable
--   Reply A             a reply: the word of its command, which payloads are readable, and the value that these hold
--   sized w n value     the reply to the word w that needs n bytes, read by `value`
--   reply_as r p         the answer to the payload p, read as the reply r
use Rattle.std.specs.Prelude.{List, Bool, true, false, ℕ, leb, length, Some, None}
use Rattle.std.specs.declared.option.Option.{Option}
use Rattle.std.specs.declared.result.Result.{Result}
use Rattle.refusal.specs.Refusal.{or_error}
use Rattle.refusal.specs.declared.Error.{Error}
use Rattle.refusal.specs.declared.Error.TheVariants.{InvalidFormat, Hardware}

-- "checks the word (refusal 1) before `ok` (refusal 3)"; a "short payload" is refusal 1 too
abbrev pub judged : Bool → Bool → Bool → Option Error
judged false ok readable = Some InvalidFormat
judged true false readable = Some Hardware
judged true true false = Some InvalidFormat
judged true true true = None

pub record Reply (A : Type 0) : Type 0 where
  pub word : ℕ
  pub readable : List ℕ → Bool
  pub value : List ℕ → A

-- "Replies ignore surplus payload."
abbrev pub sized : {A : Type 0} → ℕ → ℕ → (List ℕ → A) → Reply A
sized w n value = record { word = w; readable = λ p. leb n (length p); value = value }

abbrev pub reply_as : {A : Type 0} → Reply A → List ℕ → Result A Error
reply_as r p = or_error (judged true true (r.readable p)) (r.value p)
