-- How soon frames are found again after a disturbance: request 5, over the largest length `limit`, which it sets to 54.
--   Plain b                b begins no header
--   Clean limit f          f is a whole frame, and all its data bytes are plain
--   joined fs              the frames fs, "back to back"
--   Recovered              a frame after others is found, and delivered if it decodes
--   Recovers limit E p s   from the state s of the engine E, in which p is pending, each clean frame that begins
--                          `limit` or more bytes later is Recovered
--   FoundInStretch limit E p s   each such frame is found in the division of its whole stretch too
--   Sendable limit x       x, a family and data, can be sent as a clean frame; frame_bytes x is that frame
--   back_to_back xs          the frames of xs, one after another
--   Regains limit E s      of the frames sent `limit` or more bytes later, those that decode are delivered
--   Lost limit p early     if p is pending and the frames `early` come, one byte shorter than `limit`, the next clean
--                          frame is neither found nor delivered
use Rattle.std.specs.Prelude.{◌≡◌, ◌≢◌, List, [], ◌∷◌, ◌++◌, map, ℕ, suc, ◌≤◌, length}
use Rattle.wire.specs.Bytes.{Every}
use Rattle.wire.specs.Family.{framed}
use Rattle.wire.specs.declared.Kind.{Kind}
use Rattle.framing.specs.Piece.{Piece, whole}
use Rattle.framing.specs.Division.{Division, EndsAt}
use Rattle.engine.specs.Calls.{Call, ByteCall, Goes, Did, taken_by, so_far}
use Rattle.engine.specs.Engine.{Engine, history, final}
use Rattle.engine.specs.Fulfilled.{deliveries, answers}
use Rattle.engine.specs.Delivered.{DeliveredBy}
use Rattle.stream.specs.Length.{InRange}
use Rattle.stream.specs.Open.{Open, Whole}
use Rattle.stream.specs.Deliver.{Answer, decodes, delivered, Counter}
use Rattle.stream.specs.Protocol.{ld2410}

abbrev pub Plain : ℕ → Type 0
Plain b = (b ≢ 0xF4) × (b ≢ 0xFD)

-- "whole frames .. lengths 2 to 54, none with F4 or FD among its data bytes"
abbrev pub Clean : ℕ → List ℕ → Type 0
Clean limit f = (w : Whole limit f) × Every Plain w.held

abbrev pub joined : List (List ℕ) → List ℕ
joined [] = []
joined (f ∷ fs) = f ++ joined fs

-- p was pending; then the calls did ds and took the frames `early`, then f, then v. The pieces of all this are ps.
pub record Recovered (limit : ℕ) (ds : List (Did Answer)) (p : List ℕ) (early : List (List ℕ)) (f v : List ℕ)
    (ps : List Piece) : Type 0 where
  -- "is found whole", in its place
  pub found : EndsAt ps (length (p ++ (joined early ++ f))) f
  -- "and it is delivered if it decodes", once, in order, by the call that took its last byte
  pub delivered : DeliveredBy (ld2410 limit) ds (joined early ++ f) found.before f found.after
  -- what arrives after it is divided as if nothing had come before
  pub anew : Division (Open limit) (Whole limit) v found.after

-- "Suppose the parser is in any state, and from there on, without a reset, only whole frames arrive, back to back ..
-- Then each of them that begins 54 or more bytes after that moment" is recovered: f, after the frames `early`. The
-- bytes v after f may be anything.
abbrev pub Recovers : {S : Type 0} → ℕ → Engine S Answer Counter → List ℕ → S → Type 0
Recovers limit E p s = (calls : List Call) → Every ByteCall calls → Every Goes calls
    → (early : List (List ℕ)) → Every (Clean limit) early → limit ≤ length (joined early)
    → (f : List ℕ) → Clean limit f → (v : List ℕ) → taken_by (history E s calls) ≡ joined early ++ (f ++ v)
    → (ps : List Piece) → Division (Open limit) (Whole limit) (p ++ taken_by (history E s calls)) ps
    → Recovered limit (history E s calls) p early f v ps

-- "is found whole" in the division of the whole stretch: `calls` come before that moment, with or without resets, and
-- the stretch may hold anything by then; `more` come after it. p was pending before all of them: [] in a fresh parser.
abbrev pub FoundInStretch : {S : Type 0} → ℕ → Engine S Answer Counter → List ℕ → S → Type 0
FoundInStretch limit E p s = (calls more : List Call) → Every Goes more
    → (early : List (List ℕ)) → Every (Clean limit) early → limit ≤ length (joined early)
    → (f : List ℕ) → Clean limit f → (v : List ℕ)
    → taken_by (history E (final E s calls) more) ≡ joined early ++ (f ++ v)
    → (ps : List Piece) → Division (Open limit) (Whole limit) (so_far p (history E s (calls ++ more))) ps
    → EndsAt ps (length (so_far p (history E s calls) ++ (joined early ++ f))) f

-- For a sender, who knows families and data alone: "lengths 2 to 54, none with F4 or FD among its data bytes"
abbrev pub Sendable : ℕ → Kind × List ℕ → Type 0
Sendable limit x = InRange limit (length x.1) × Every (λ b. (b ≢ 0xF4) × (b ≢ 0xFD)) x.1

abbrev pub frame_bytes : Kind × List ℕ → List ℕ
frame_bytes x = framed x.0 x.1

abbrev pub back_to_back : List (Kind × List ℕ) → List ℕ
back_to_back [] = []
back_to_back (x ∷ xs) = frame_bytes x ++ back_to_back xs

-- What the frames `early` deliver, `before`, is left open. Then those of `late` that decode are delivered, each once,
-- in order, and nothing else.
abbrev pub Regains : {S : Type 0} → ℕ → Engine S Answer Counter → S → Type 0
Regains limit E s = (calls : List Call) → Every ByteCall calls → Every Goes calls
    → (early late : List (Kind × List ℕ)) → Every (Sendable limit) early → Every (Sendable limit) late
    → limit ≤ length (back_to_back early) → taken_by (history E s calls) ≡ back_to_back early ++ back_to_back late
    → (before : List Answer) × (deliveries (ld2410 limit).delivers (history E s calls)
    ≡ before ++ answers decodes delivered (map (λ (x : Kind × List ℕ). whole (frame_bytes x)) late))

-- "Show too that 53 is not enough."
pub record Lost (limit : ℕ) (p : List ℕ) (early : List (List ℕ)) : Type 0 where
  -- p can be pending, and the frames `early` are clean
  pub may_wait : Open limit p × (¬ Whole limit p)
  pub clean : Every (Clean limit) early
  pub one_less : suc (length (joined early)) ≡ limit
  -- whichever clean frame f is next, and whatever follows it, f is not found in its place
  pub unfound : (f : List ℕ) → Clean limit f → (v : List ℕ) (ps : List Piece)
      → Division (Open limit) (Whole limit) (p ++ (joined early ++ (f ++ v))) ps
      → ¬ EndsAt ps (length (p ++ (joined early ++ f))) f
  -- and nothing is delivered up to its end
  pub undelivered : (f : List ℕ) → Clean limit f → (ps : List Piece)
      → Division (Open limit) (Whole limit) (p ++ (joined early ++ f)) ps → answers decodes delivered ps ≡ []
