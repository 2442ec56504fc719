-- The answers of a replay program, as they gather in a buffer.
--   Call F R                 the calls of a bound's closure of type F, which gives an R: on a buffer and a case's bytes
--   CallAnswers g f o s o'   a call of f may answer the case s: o is gathered before it, and o' after it
--   Answered A n b x o o'    the cases after the case x of the buffer b are answered by A, one after another, from o on
--                            to o', where the answers end as the input does; or n cases are, and nothing follows
use Rattle.std.specs.Prelude.{◌≡◌, List, ℕ, ◌+◌, true, false}
use Rattle.std.specs.Fn.{Shared}
use denote.Ref.{Bor, MutBor}
use Rattle.replay_io.specs.Case.{is_case, unread, NextCase}
use Rattle.replay_io.specs.Line.{Gathered, put_all, closing}
use Rattle.replay_io.specs.declared.input.Next.{Next}

abbrev pub Call : Type 0 → Type 0 → Type 1
Call F R = Shared F (MutBor Gathered × (Bor (List ℕ) × Unit {0})) (R × (MutBor Gathered × Unit {0}))

pub record CallAnswers {F R : Type 0} (g : Call F R) (f : F) (o : Gathered) (s : List ℕ) (o' : Gathered) : Type 0 where
  pub shown : MutBor Gathered
  pub shows : shown.now ≡ o
  pub case : Bor (List ℕ)
  pub holds : case.now ≡ s
  pub told : R
  pub left : MutBor Gathered
  pub met : g.post f (shown, (case, tt)) (told, (left, tt))
  pub leaves : left.now ≡ o'

pub data Answered (A : Gathered → List ℕ → Gathered → Type 0) : ℕ → List ℕ → Next → Gathered → Gathered → Type 0 where
  spent : (b : List ℕ) (x : Next) (o : Gathered) → Answered A 0 b x o o
  ended : (n : ℕ) (b b' : List ℕ) (x r : Next) (o : Gathered) → NextCase b x b' r → is_case r.found ≡ false
      → Answered A (n + 1) b x o (put_all o (closing r.found))
  answered : (n : ℕ) (b b' : List ℕ) (x r : Next) (o m o' : Gathered) → NextCase b x b' r → is_case r.found ≡ true
      → A o (unread b' r.start r.end) m → Answered A n b' r m o' → Answered A (n + 1) b x o o'
