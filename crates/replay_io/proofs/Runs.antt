-- The answers of a run, turn by turn: t of N turns are made, and o is gathered.
use mathlib.Core.Path.{◌≡◌, refl}
use mathlib.Core.Bool.{true, false}
use mathlib.Core.List.{List}
use Prim.Native.Nat.{ℕ, ◌+◌, ◌-◌, ◌<◌, ◌≤◌}
use native.Mathlib.Omega.{arith}
use denote.Ref.{Bor, MutBor}
use Rattle.replay_io.specs.Answers.{Call, CallAnswers, Answered, spent, ended, answered}
use Rattle.replay_io.specs.Case.{NextCase, is_case, unread}
use Rattle.replay_io.specs.Line.{Gathered, put_all, closing}
use Rattle.replay_io.specs.declared.input.Next.{Next}

-- A call answers the case that its second argument points to.
pub call_answers : {F R : Type 0} (g : Call F R) (f : F) (p : MutBor Gathered) (q : Bor (List ℕ))
    (r : R) (l : MutBor Gathered)
    → g.post f (p, (q, tt)) (r, (l, tt)) → CallAnswers g f p.now q.now l.now
call_answers g f p q r l h =
    record { shown = p; shows = refl; case = q; holds = refl; told = r; left = l; met = h; leaves = refl }

module _ (A : Gathered → List ℕ → Gathered → Type 0) (N t : ℕ) (b : List ℕ) (x : Next) (o : Gathered) where
  pub all_spent : N ≤ t → Answered A (N - t) b x o o
  all_spent h = let e : N - t ≡ 0 = omega arith in rw e (spent b x o)

  module _ (b' : List ℕ) (r : Next) (h : t < N) (c : NextCase b x b' r) where
    one_left : N - t ≡ (N - (t + 1)) + 1
    one_left = omega arith

    pub ended_now : is_case r.found ≡ false → Answered A (N - t) b x o (put_all o (closing r.found))
    ended_now f = rw one_left (ended (N - (t + 1)) b b' x r o c f)

    pub one_more : is_case r.found ≡ true → (m p : Gathered)
        → A o (unread b' r.start r.end) m → Answered A (N - (t + 1)) b' r m p → Answered A (N - t) b x o p
    one_more f m p a q = rw one_left (answered (N - (t + 1)) b b' x r o m p c f a q)
