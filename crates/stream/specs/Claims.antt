-- The claims about the link's stream, in reading order, over the largest length `limit`, which document 01 sets to 54.
-- src/lib.rt pins each of them in a contract.
use Rattle.std.specs.Prelude.{◌≡◌, ◌≢◌, ◌↔◌, List, [], ◌∷◌, ◌++◌, true, ℕ, suc, ◌+◌, ◌-◌, ◌≤◌, ◌<◌, length, get_or, take, replicate}
use Rattle.std.specs.Prelude.{option_map, IsOk}
use Rattle.std.specs.Result.{result_ok}
use Rattle.refusal.specs.Check.{Passes}
use Rattle.wire.specs.Number.{little, le_bytes}
use Rattle.wire.specs.Family.{header, tail, framed}
use Rattle.wire.specs.declared.Kind.{Kind}
use Rattle.wire.specs.declared.Kind.TheVariants.{Report}
use Rattle.wire.specs.Bytes.{Every, Bytes}
use Rattle.frame.specs.Frame.{body_checks, decoded, parsed_frame}
use Rattle.framing.specs.Piece.{Piece, broken, spelled}
use Rattle.framing.specs.Division.{Division, Divided, EndsAt, finished, cut}
use Rattle.framing.specs.Tally.{resynced, lost, in_frames, waiting, sum}
use Rattle.engine.specs.Calls.{Call, ByteCall}
use Rattle.engine.specs.Engine.{Engine}
use Rattle.engine.specs.Fulfilled.{Fulfilled}
use Rattle.stream.specs.Length.{InRange}
use Rattle.stream.specs.Open.{Open, Whole}
use Rattle.stream.specs.Deliver.{Answer, decodes, counted_in, payload_of, delivered, Counter, adds}
use Rattle.stream.specs.Protocol.{ld2410}
use Rattle.stream.specs.Recovery.{Clean, Sendable, Recovers, FoundInStretch, Regains, Lost}

-- A whole frame that is made of bytes is `framed k d`, for a family k and data d of a length in range.
unfoldable pub WholeFramed : Type 0
WholeFramed = (limit : ℕ) (s : List ℕ) → Bytes s → Whole limit s
    → (k : Kind) × (d : List ℕ) × InRange limit (length d) × (s ≡ framed k d)

-- A single byte is not open exactly if it is "neither F4 nor FD".
unfoldable pub StrayBytes : Type 0
StrayBytes = (limit b : ℕ) → (¬ Open limit (b ∷ [])) ↔ (b ≢ 0xF4) × (b ≢ 0xFD)

-- A division over the link's open strings and whole frames.
abbrev pub Divides : ℕ → List ℕ → List Piece → Type 0
Divides limit s ps = Division (Open limit) (Whole limit) s ps

-- Every string has a division. "Any two divisions of a stretch have the same pieces in the same places."
unfoldable pub DividesOnce : Type 0
DividesOnce = (limit : ℕ) (s : List ℕ) → Divided (Open limit) (Whole limit) s

-- The pieces, joined, are the string.
unfoldable pub DivisionSpelled : Type 0
DivisionSpelled = (limit : ℕ) (s : List ℕ) (ps : List Piece) → Divides limit s ps → spelled ps ≡ s

-- Each byte is dropped, or in the unfinished end, or in a whole frame.
unfoldable pub DivisionLength : Type 0
DivisionLength = (limit : ℕ) (s : List ℕ) (ps : List Piece) → Divides limit s ps
    → length s ≡ sum lost ps + sum waiting ps + sum in_frames ps

-- The unfinished end is open, and no whole frame.
unfoldable pub UnfinishedOpen : Type 0
UnfinishedOpen = (limit : ℕ) (s : List ℕ) (ps : List Piece) → Divides limit s ps
    → Open limit (cut ps) × (¬ Whole limit (cut ps))

-- Later bytes change no finished piece: the division of s ++ t is the finished pieces of s, and then the division of
-- the unfinished end of s with t behind it.
unfoldable pub DivisionAppend : Type 0
DivisionAppend = (limit : ℕ) (s t : List ℕ) (ps qs : List Piece) → Divides limit s ps → Divides limit (s ++ t) qs
    → (rs : List Piece) × (qs ≡ finished ps ++ rs) × Divides limit (cut ps ++ t) rs

-- Every counter's total over s ++ t is its total over s plus its total over the unfinished end of s with t behind it.
unfoldable pub TotalAppend : Type 0
TotalAppend = (limit : ℕ) (k : Counter) (s t : List ℕ) (ps qs rs : List Piece)
    → Divides limit s ps → Divides limit (s ++ t) qs → Divides limit (cut ps ++ t) rs
    → sum (adds k) qs ≡ sum (adds k) ps + sum (adds k) rs

-- Which frame ends at a byte does not depend on the bytes after it.
unfoldable pub EndsForGood : Type 0
EndsForGood = (limit : ℕ) (s : List ℕ) (c : ℕ) (t u : List ℕ) (ps qs : List Piece)
    → Divides limit (s ++ (c ∷ t)) ps → Divides limit (s ++ (c ∷ u)) qs → (f : List ℕ)
    → EndsAt ps (length s + 1) f → EndsAt qs (length s + 1) f

-- n bytes have at most n - 1 broken starts, and none if n is 0.
unfoldable pub ResyncsBound : Type 0
ResyncsBound = (limit : ℕ) (s : List ℕ) (ps : List Piece) → Divides limit s ps → sum resynced ps ≤ length s - 1

-- n bytes F4, for n from 1 on, have exactly n - 1.
unfoldable pub ResyncsReached : Type 0
ResyncsReached = (limit m : ℕ) (ps : List Piece) → Divides limit (replicate (suc m) 0xF4) ps → sum resynced ps ≡ m

-- Document 01's first trap: "The second byte of a bad length is dropped with the header. It must be tried as a new
-- start." The header and the first length byte are a broken start; the second length byte begins the next piece.
unfoldable pub BadLength : Type 0
BadLength = (limit : ℕ) (k : Kind) (lo hi : ℕ) (t : List ℕ) (ps : List Piece)
    → (InRange limit (little (lo ∷ hi ∷ [])) → ⊥)
    → Divides limit (hi ∷ t) ps
    → Divides limit ((header k ++ (lo ∷ [])) ++ (hi ∷ t)) (broken (header k ++ (lo ∷ [])) ∷ ps)

-- Its second trap: "After a broken tail the whole span is searched again. Only the offending byte is." All bytes before
-- the offending byte c are a broken start, whatever the data hold.
unfoldable pub BrokenTail : Type 0
BrokenTail = (limit : ℕ) (k : Kind) (lo hi : ℕ) (d : List ℕ) (m c : ℕ) (t : List ℕ) (ps : List Piece)
    → InRange limit (little (lo ∷ hi ∷ [])) → length d ≡ little (lo ∷ hi ∷ []) → m < 4 → c ≢ get_or (tail k) m 0
    → Divides limit (c ∷ t) ps
    → Divides limit ((header k ++ (lo ∷ hi ∷ (d ++ take m (tail k)))) ++ (c ∷ t))
    (broken (header k ++ (lo ∷ hi ∷ (d ++ take m (tail k)))) ∷ ps)

-- "A whole frame decodes if its data pass R1 to R8 (report) or A1 and A2 (command)", and only then.
unfoldable pub DecodesWhole : Type 0
DecodesWhole = (limit : ℕ) (s : List ℕ) (w : Whole limit s) → Bytes s
    → (decodes s ≡ true) ↔ Passes (body_checks w.kind) w.held

-- A string decodes exactly if `Frame::parse` accepts it, and is delivered "as `Frame::parse` gives it, but with a
-- payload's start counted in the parser's buffer", at byte 4.
unfoldable pub DeliversParsed : Type 0
DeliversParsed = (f : List ℕ) → ((decodes f ≡ true) ↔ IsOk (parsed_frame f))
    × ((delivered f).0 ≡ option_map (counted_in 4) (result_ok (parsed_frame f)))

-- A whole frame delivers what its data are read as, and its payload's bytes. In a buffer that begins with the data, the
-- payload starts at byte 4.
unfoldable pub DeliversWhole : Type 0
DeliversWhole = (limit : ℕ) (s : List ℕ) (w : Whole limit s) (r : List ℕ) → Bytes s
    → let x = result_ok (decoded 4 w.kind w.held) in
    ◌≡◌ {A = Answer} (delivered s) (x, payload_of x (w.held ++ r))

-- Request 5 is about every frame with "lengths 2 to 54, none with F4 or FD among its data bytes", of either kind.
unfoldable pub AnyClean : Type 0
AnyClean = (k : Kind) (d : List ℕ) → 2 ≤ length d → length d ≤ 54 → Every (λ b. (b ≢ 0xF4) × (b ≢ 0xFD)) d
    → Clean 54 (framed k d) × Sendable 54 (k, d)

-- Request 5, for every largest length up to 512: a parser that fulfils demand 3 recovers, whatever is pending. States
-- are lists of numbers here, since a contract can hold no statement about all types.
unfoldable pub AnyRecovers : Type 0
AnyRecovers = (limit : ℕ) → limit ≤ 512 → (E : Engine (List ℕ) Answer Counter) (p s : List ℕ)
    → ((calls : List Call) → Every ByteCall calls → Fulfilled (ld2410 limit) E p s calls) → Recovers limit E p s

-- Whatever the engine, each such frame is found in the division of its whole stretch.
unfoldable pub AnyFound : Type 0
AnyFound = (limit : ℕ) → limit ≤ 512 → (E : Engine (List ℕ) Answer Counter) (p s : List ℕ) → FoundInStretch limit E p s

-- So it delivers every frame sent `limit` or more bytes later, if it decodes.
unfoldable pub AnyRegains : Type 0
AnyRegains = (limit : ℕ) → limit ≤ 512 → (E : Engine (List ℕ) Answer Counter) (p s : List ℕ)
    → ((calls : List Call) → Every ByteCall calls → Fulfilled (ld2410 limit) E p s calls) → Regains limit E s

-- One byte less is not enough: a report's header and the length `limit` are pending, and a report of zeros comes, one
-- byte shorter than `limit`. Below 13 no frame is so short.
unfoldable pub NotSooner : Type 0
NotSooner = (limit : ℕ) → 13 ≤ limit → limit ≤ 512
    → Lost limit (header Report ++ le_bytes 2 limit) (framed Report (replicate (limit - 11) 0) ∷ [])

-- The same for 244, whose length bytes are F4 00: F4 can itself begin a header.
unfoldable pub NotSoonerAt244 : Type 0
NotSoonerAt244 = Lost 244 (header Report ++ (0xF4 ∷ 0x00 ∷ [])) (framed Report (replicate 233 0) ∷ [])
