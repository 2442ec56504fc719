-- The run of a slice, from any of its bytes on: the loop's invariant, and the outcome at each of its exits.
--   later i r   the outcome r, if i bytes were taken before
--   Left        after i of the bytes, the run of the rest from the parser p has the outcome of all the bytes, `all`
use mathlib.Core.Path.{◌≡◌, ap, ◌∙◌}
use mathlib.Core.List.{List, [], ◌∷◌}
use mathlib.Core.Bool.{Bool, true, false}
use Prim.Native.Nat.{ℕ, suc, ◌+◌, ◌<◌}
use native.Mathlib.Numerals.{add-one}
use native.Mathlib.Omega.{arith}
use native.Mathlib.Nat.{zero-add}
use lib.ListN.{length, get_or, drop}
use lib.Seq.{drop-cons, drop-length}
use Rattle.std.specs.Prelude.{Some}
use Rattle.ld2450.specs.Target.{three_of}
use Rattle.ld2450_parser.specs.Stream.{Answer, nothing}
use Rattle.ld2450_parser.specs.Feed.{put, progress_of, step_of, stored, answer_if, stepped, run_of}
use Rattle.ld2450_parser.specs.declared.steps.Progress.{Progress}
use Rattle.ld2450_parser.specs.declared.Parser.{Parser}
use Rattle.ld2450_parser.specs.declared.Fed.{Fed}
use Rattle.ld2450_parser.specs.declared.Taken.{Taken}

abbrev slice_to : Parser → ℕ → Answer → Fed Taken
slice_to p n a = record { parser = p; answer = record { count = n; frame = a } }

abbrev later : ℕ → Fed Taken → Fed Taken
later i r = slice_to r.parser (i + r.answer.count) r.answer.frame

-- No bytes are left.
run-nil : (i : ℕ) (p : Parser) → later i (run_of p []) ≡ slice_to p i nothing
unfolding run_of
run-nil i p = let z : i + 0 ≡ i = omega arith in ap (λ k. slice_to p k nothing) z

pub record Left (all : Fed Taken) (p : Parser) (bs : List ℕ) (i : ℕ) : Type 0 where
  pub came : all ≡ later i (run_of p (drop i bs))

module _ (p : Parser) (bs : List ℕ) where
  pub left_start : Left (run_of p bs) p bs 0
  left_start = record { came = rw zero-add }

  pub left_end : {all : Fed Taken} (i : ℕ) → Left all p bs i → i ≡ length bs → all ≡ slice_to p (length bs) nothing
  left_end i x e =
      let none : drop i bs ≡ [] = rw e (drop-length bs) in
      x.came ∙ ap (λ (l : List ℕ). later i (run_of p l)) none ∙ run-nil i p ∙ ap (λ k. slice_to p k nothing) e

  -- The next byte: the step, and then what is left.
  module _ {all : Fed Taken} (i : ℕ) (x : Left all p bs i) (u : i < length bs) (g : Progress) (d : List ℕ)
      (ge : g ≡ progress_of (step_of p.at p.stats (get_or bs i 0))) (de : d ≡ stored p.at p.buf (get_or bs i 0))
      (e : Bool) (ee : e ≡ (step_of p.at p.stats (get_or bs i 0)).ended) where
    next : all ≡ later i (run_of p (get_or bs i 0 ∷ drop (suc i) bs))
    next = x.came ∙ ap (λ (l : List ℕ). later i (run_of p l)) (drop-cons bs i 0 u)

    one : stepped p (get_or bs i 0) ≡ record { parser = put d g.at g.stats; answer = answer_if e d }
    unfolding stepped
    one = rw (ge, de, ee)

    pub left_frame : e ≡ true → all ≡ slice_to (put d g.at g.stats) (i + 1) (Some (three_of d))
    unfolding run_of answer_if
    left_frame t = next ∙ rw (one, t)

    pub left_on : e ≡ false → Left all (put d g.at g.stats) bs (i + 1)
    unfolding run_of answer_if
    left_on t =
        let rest = run_of (put d g.at g.stats) (drop (suc i) bs) in
        let more : i + suc rest.answer.count ≡ suc i + rest.answer.count = omega arith in
        record { came = next ∙ rw (one, t, add-one) (ap (λ k. slice_to rest.parser k rest.answer.frame) more) }
