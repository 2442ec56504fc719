-- From demand 3 alone: of whole frames back to back each is delivered, once, in order, and no byte is lost.
use mathlib.Core.Path.{◌≡◌, refl, sym, ap, ◌∙◌}
use mathlib.Core.List.{List, [], ◌∷◌, map, map-append}
use Prim.Native.Nat.{ℕ}
use native.Mathlib.Omega.{arith}
use lib.ListN.{length, length-append}
use lib.Seq.{take_at}
use Rattle.std.specs.Prelude.{Some}
use Rattle.wire.specs.Bytes.{Every}
use Rattle.framing.specs.Piece.{Piece, whole}
use Rattle.framing.specs.Division.{Division, is_empty, is_whole, Divided}
use Rattle.framing.specs.Tally.{sum}
use Rattle.engine.specs.Fulfilled.{answers, join_over, sum_over}
use Rattle.ld2450.specs.Target.{three_of}
use Rattle.ld2450.specs.Frame.{tail, framed}
use Rattle.ld2450_parser.specs.Stream.{Answer, Open, Whole, delivered, decodes, adds, Counter, frames, resyncs, dropped}
use Rattle.ld2450_parser.specs.Claims.{Demand3, back_to_back, all_of, Receives}
use Rattle.ld2450_parser.specs.declared.Parser.{Parser}
use Rattle.ld2450_parser.proofs.Frames.{is_frame_lem}
use Rattle.ld2450_parser.proofs.OneByte.{Valid}

abbrev Held : List ℕ → Type 0
Held d = length d ≡ 24

abbrev wholes : List (List ℕ) → List Piece
wholes ds = map (λ (d : List ℕ). whole (framed d)) ds

abbrev targets_in : List ℕ → Answer
targets_in d = Some (three_of d)

-- Frames back to back are divided into these frames, each delivered and counted; no byte is dropped.
wholes_divide : (ds : List (List ℕ)) → Every Held ds → Division Open Whole (back_to_back ds) (wholes ds)
wholes_divide [] h = is_empty
wholes_divide (d ∷ ds) h = is_whole (is_frame_lem d h.0) (wholes_divide ds h.1)

wholes_answered : (ds : List (List ℕ)) → Every Held ds → answers decodes delivered (wholes ds) ≡ map targets_in ds
wholes_answered [] h = refl
wholes_answered (d ∷ ds) h = rw (take_at d tail 24 h.0, wholes_answered ds h.1)

wholes_counted : (ds : List (List ℕ)) → sum (adds frames) (wholes ds) ≡ length ds
wholes_counted [] = refl
wholes_counted (d ∷ ds) = omega (arith, wholes_counted ds)

wholes_broken : (ds : List (List ℕ)) → sum (adds resyncs) (wholes ds) ≡ 0
wholes_broken [] = refl
wholes_broken (d ∷ ds) = omega (arith, wholes_broken ds)

wholes_lost : (ds : List (List ℕ)) → sum (adds dropped) (wholes ds) ≡ 0
wholes_lost [] = refl
wholes_lost (d ∷ ds) = omega (arith, wholes_lost ds)

-- The same over several stretches.
module _ (divide : (t : List ℕ) → Divided Open Whole t) where
  pieces_of : (ds : List (List ℕ)) → Every Held ds → (divide (back_to_back ds)).pieces ≡ wholes ds
  pieces_of ds h = sym ((divide (back_to_back ds)).only (wholes ds) (wholes_divide ds h))

  all_answered : (dss : List (List (List ℕ))) → Every (Every Held) dss
      → join_over (λ t. answers decodes delivered (divide t).pieces) (map back_to_back dss)
      ≡ map targets_in (all_of dss)
  all_answered [] h = refl
  all_answered (ds ∷ dss) h =
      rw (pieces_of ds h.0, wholes_answered ds h.0, all_answered dss h.1)
      (sym (map-append targets_in ds (all_of dss)))

  abbrev total : Counter → List (List (List ℕ)) → ℕ
  total k dss = sum_over (λ t. sum (adds k) (divide t).pieces) (map back_to_back dss)

  all_counted : (dss : List (List (List ℕ))) → Every (Every Held) dss → total frames dss ≡ length (all_of dss)
  all_counted [] h = refl
  all_counted (ds ∷ dss) h =
      omega (
        arith,
        ap (sum (adds frames)) (pieces_of ds h.0) ∙ wholes_counted ds,
        all_counted dss h.1,
        length-append ds (all_of dss),
      )

  none_added : (k : Counter) → ((ds : List (List ℕ)) → sum (adds k) (wholes ds) ≡ 0) → (dss : List (List (List ℕ)))
      → Every (Every Held) dss → total k dss ≡ 0
  none_added k e [] h = refl
  none_added k e (ds ∷ dss) h =
      omega (arith, ap (sum (adds k)) (pieces_of ds h.0) ∙ e ds, none_added k e dss h.1)

module _ (p : List ℕ) (x : Parser) (v : Valid x) (demand : Demand3 p x) where
  pub receives : Receives p x
  receives calls dss h held e =
      let y = demand calls h in
      let resynced = none_added y.divide resyncs wholes_broken dss held in
      let lost = none_added y.divide dropped wholes_lost dss held in
      record {
        each = y.delivered ∙ rw e (all_answered y.divide dss held);
        frames = rw (e, all_counted y.divide dss held) at (y.counted frames);
        resyncs = let n = rw (e, resynced) at (y.counted resyncs) in omega (arith, n, v.capped resyncs);
        dropped = let n = rw (e, lost) at (y.counted dropped) in omega (arith, n, v.capped dropped);
      }
