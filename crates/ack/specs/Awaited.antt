-- Awaiting an acknowledgement, and reading its payload as a reply.
--   awaited a w readable    the refusal if the word w is awaited and a comes, whose payload is readable or not
--   AwaitedCauses z a w readable r   r returns each number exactly in its cause, and beside a refusal every other field
--                           is 0; z is the value with every field 0
--   expected a w            the answer of `expect`
--   no_span                  every field 0, which is returned beside a refusal
--   replied r a s           the answer to a, whose payload is in the bytes s, if the reply r is awaited
--   ReplyCauses z r a s b   AwaitedCauses for b, which that answer returns
use Rattle.std.specs.Prelude.{◌≡◌, ◌≢◌, ◌↔◌, ◌⊎◌, List, Bool, true, false, ℕ, eqb}
use Rattle.std.specs.declared.option.Option.{Option}
use Rattle.std.specs.declared.result.Result.{Result}
use Rattle.refusal.specs.Refusal.{Returned, or_error}
use Rattle.refusal.specs.declared.Error.{Error}
use Rattle.reply.specs.Reply.{Reply, judged}
use Rattle.ack.specs.Span.{payload_in}
use Rattle.ack.specs.declared.span.Span.{Span}
use Rattle.ack.specs.declared.Ack.{Ack}

abbrev pub awaited : Ack → ℕ → Bool → Option Error
awaited a w readable = judged (eqb a.word w) a.ok readable

pub record AwaitedCauses {A : Type 0} (z : A) (a : Ack) (w : ℕ) (readable : Bool) (r : Returned A) : Type 0 where
  -- nothing is refused exactly if the word is the awaited one, `ok` is on and the payload is readable
  pub accepted : r.number ≡ 0 ↔ (a.word ≡ w) × (a.ok ≡ true) × (readable ≡ true)
  -- 1 is returned exactly for another word; or for the awaited word with `ok` on, if the payload is not readable
  pub invalid : r.number ≡ 1 ↔ (a.word ≢ w) ⊎ ((a.word ≡ w) × (a.ok ≡ true) × (readable ≡ false))
  -- 3 is returned exactly for the awaited word with `ok` off
  pub hardware : r.number ≡ 3 ↔ (a.word ≡ w) × (a.ok ≡ false)
  -- no other number is returned
  pub total : (r.number ≡ 0) ⊎ ((r.number ≡ 1) ⊎ (r.number ≡ 3))
  -- "number, other fields 0"
  pub blank : r.number ≢ 0 → r ≡ record { number = r.number; needed = 0; value = z }

-- `expect` gives the span and reads no payload, so none is too short.
abbrev pub expected : Ack → ℕ → Result Span Error
expected a w = or_error (awaited a w true) a.payload

abbrev pub no_span : Span
no_span = record { start = 0; len = 0 }

abbrev pub replied : {A : Type 0} → Reply A → Ack → List ℕ → Result A Error
replied r a s = or_error (awaited a r.word (r.readable (payload_in s a.payload))) (r.value (payload_in s a.payload))

abbrev pub ReplyCauses : {A : Type 0} → A → Reply A → Ack → List ℕ → Returned A → Type 0
ReplyCauses z r a s b = AwaitedCauses z a r.word (r.readable (payload_in s a.payload)) b
