-- Which call delivered a whole frame, among calls without a reset.
--   DeliveredBy P ds t before f after   the calls did ds, and took the bytes t up to the end of the whole frame f; the
--                                       pieces of their stretch are `before`, f and `after`. The call that took the
--                                       last byte of f delivered f, if it decodes, once and in order
use Rattle.std.specs.Prelude.{◌≡◌, ◌≢◌, List, [], ◌∷◌, ◌++◌, ℕ}
use Rattle.framing.specs.Piece.{Piece, whole}
use Rattle.engine.specs.Calls.{Did, taken, taken_by}
use Rattle.engine.specs.Fulfilled.{Protocol, delivery, deliveries, answer, answers}

pub record DeliveredBy {A K : Type 0} (P : Protocol A K) (ds : List (Did A)) (t : List ℕ) (before : List Piece)
    (f : List ℕ) (after : List Piece) : Type 0 where
  pub earlier : List (Did A)
  pub call : Did A
  pub later : List (Did A)
  pub split : ds ≡ earlier ++ (call ∷ later)
  -- the last byte that the call took is the frame's last
  pub took : taken call ≢ []
  pub last : taken_by earlier ++ taken call ≡ t
  -- it delivered the frame if that decodes, else nothing
  pub its : delivery P.delivers call ≡ answer P.decodes P.answer_of (whole f)
  -- the calls before it delivered the frames of `before` that decode, and the calls after it those of `after`
  pub before_it : deliveries P.delivers earlier ≡ answers P.decodes P.answer_of before
  pub after_it : deliveries P.delivers later ≡ answers P.decodes P.answer_of after
