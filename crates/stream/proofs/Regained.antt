-- `Recovers` implies `Regains`: of clean frames sent back to back, all that begin `limit` or more bytes later and
-- decode are delivered.
use mathlib.Core.Path.{◌≡◌, refl, sym, ◌∙◌, ap}
use mathlib.Core.List.{List, [], ◌∷◌, ◌++◌, map, append-nil}
use Prim.Native.Nat.{ℕ, ◌%◌, ◌/◌, ◌≤◌}
use native.Mathlib.Omega.{arith}
use lib.ListN.{length}
use Rattle.wire.specs.Bytes.{Every}
use Rattle.wire.specs.Number.{little, le_bytes}
use Rattle.wire.specs.Family.{framed}
use Rattle.wire.specs.declared.Kind.{Kind}
use Rattle.framing.specs.Piece.{Piece, whole}
use Rattle.framing.specs.Division.{is_empty, is_whole}
use Rattle.framing.proofs.Framing.{Divides}
use Rattle.framing.proofs.Scanned.{divided, division_unique}
use Rattle.engine.specs.Calls.{taken_by}
use Rattle.engine.specs.Engine.{Engine, history}
use Rattle.engine.specs.Fulfilled.{deliveries}
use Rattle.engine.proofs.Delivered.{delivered_on}
use Rattle.stream.specs.Deliver.{Answer, Counter}
use Rattle.stream.specs.Protocol.{ld2410}
use Rattle.stream.specs.Recovery.{Clean, joined, Recovers, Sendable, frame_bytes, back_to_back, Regains}
use Rattle.stream.proofs.Link.{link}
use Rattle.stream.proofs.Idle.{whole_as}

module _ (limit : ℕ) (small : limit ≤ 512) where
  pub sendable_clean : (x : Kind × List ℕ) → Sendable limit x → Clean limit (frame_bytes x)
  unfolding framed
  sendable_clean x h =
      let n = length x.1 in
      let l : little (le_bytes 2 n) ≡ n = omega (arith, h.0.1) in (
        whole_as limit x.0 (n % 256) (n / 256 % 256) x.1 (omega (arith, l, h.0.0), omega (arith, l, h.0.1))
            (sym l) refl,
        h.1,
      )

  abbrev strings : List (Kind × List ℕ) → List (List ℕ)
  strings xs = map frame_bytes xs

  all_clean : (xs : List (Kind × List ℕ)) → Every (Sendable limit) xs → Every (Clean limit) (strings xs)
  all_clean [] h = tt
  all_clean (x ∷ xs) h = (sendable_clean x h.0, all_clean xs h.1)

  all_joined : (xs : List (Kind × List ℕ)) → joined (strings xs) ≡ back_to_back xs
  all_joined [] = refl
  all_joined (x ∷ xs) = ap (λ (l : List ℕ). frame_bytes x ++ l) (all_joined xs)

  abbrev wholes : List (Kind × List ℕ) → List Piece
  wholes xs = map (λ (x : Kind × List ℕ). whole (frame_bytes x)) xs

  all_divided : (xs : List (Kind × List ℕ)) → Every (Sendable limit) xs
      → Divides (link limit) (back_to_back xs) (wholes xs)
  all_divided [] h = is_empty
  all_divided (x ∷ xs) h = is_whole (sendable_clean x h.0).0 (all_divided xs h.1)

  pub regains : {S : Type 0} (E : Engine S Answer Counter) (p : List ℕ) (s : S) → Recovers limit E p s
      → Regains limit E s
  regains E p s r calls bytes goes early [] c d l e =
      (deliveries (ld2410 limit).delivers (history E s calls), sym (append-nil _))
  regains E p s r calls bytes goes early (x ∷ late) c d l e =
      let ds = history E s calls in
      let all = divided (link limit) (p ++ taken_by ds) in
      let y = r calls bytes goes (strings early) (all_clean early c) (omega (arith, l, ap length (all_joined early)))
      (frame_bytes x) (sendable_clean x d.0) (back_to_back late)
      (e ∙ ap (λ (t : List ℕ). t ++ (frame_bytes x ++ back_to_back late)) (sym (all_joined early)))
      all.pieces all.division in
      let after = division_unique (link limit) y.anew (all_divided late d.1) in (
        deliveries (ld2410 limit).delivers y.delivered.earlier,
        rw after at (delivered_on (ld2410 limit) y.delivered),
      )
