-- What a string closes and what it leaves pending, and what these add up to.
--   Content          how many pieces are basic reports, reports without their last byte (cut), acknowledgements, bytes
--                    that begin a header, and bytes that mend the cut report before them
--   opening c b      c cut reports and b bytes that begin a header
--   ending r a m     r reports, a acknowledgements and m bytes that mend
--   both m n         two contents, added up
--   pending p        1 if the pending string p has a byte, else 0
--   broke p          the pending string p as a broken start, none if it is empty
--   Tally p ps q n   what the pieces ps add up to, if the content n closes them, and p was pending before, q is after
--   Scans p s ps q   after the pending string p, the string s closes the pieces ps and leaves q
use mathlib.Core.Path.{◌≡◌, refl, sym, ◌∙◌, ap}
use mathlib.Core.List.{List, [], ◌∷◌, ◌++◌, append_assoc, append-nil}
use mathlib.Core.Bool.{true}
use mathlib.Core.Option.{Option}
use Prim.Native.Nat.{ℕ, ◌+◌, ◌*◌, min}
use native.Mathlib.Omega.{arith}
use lib.ListN.{length, length-append}
use Rattle.framing.specs.Piece.{Piece, stray, broken, whole, unfinished, spelled}
use Rattle.framing.specs.Division.{is_empty, is_whole}
use Rattle.framing.specs.Tally.{sum, waiting, in_frames}
use Rattle.framing.proofs.Framing.{Framing, Waits}
use Rattle.framing.proofs.Division.{sum-append, spelled_append}
use Rattle.framing.proofs.Scanner.{Step, step, closed, rest, leftover}
use Rattle.framing.proofs.View.{step_whole, step_on, step_over, step_length}
use Rattle.framing.proofs.Scanned.{from, from-append}
use Rattle.framing.proofs.Append.{division_finished}
use Rattle.framing.proofs.Ends.{Ends, here, ends_to, ends_after}
use Rattle.framing.proofs.Rest.{waits_closed, waits_rest, rest_whole}
use Rattle.stream.specs.Deliver.{decodes, adds, frames, resyncs, malformed}

pub record Content : Type 0 where
  pub reports : ℕ
  pub cuts : ℕ
  pub acks : ℕ
  pub starts : ℕ
  pub mended : ℕ

abbrev pub opening : ℕ → ℕ → Content
opening c b = record { reports = 0; cuts = c; acks = 0; starts = b; mended = 0 }

abbrev pub ending : ℕ → ℕ → ℕ → Content
ending r a m = record { reports = r; cuts = 0; acks = a; starts = 0; mended = m }

abbrev pub both : Content → Content → Content
both m n = record {
  reports = m.reports + n.reports;
  cuts = m.cuts + n.cuts;
  acks = m.acks + n.acks;
  starts = m.starts + n.starts;
  mended = m.mended + n.mended;
}

abbrev pub pending : List ℕ → ℕ
pending p = min 1 (length p)

abbrev pub broke : List ℕ → List Piece
broke [] = []
broke (b ∷ p) = broken (b ∷ p) ∷ []

-- What is begun, by a cut report or the first byte of a header, is broken, mended or pending.
pub record Tally (p : List ℕ) (ps : List Piece) (q : List ℕ) (n : Content) : Type 0 where
  pub decoded : sum (adds frames) ps ≡ n.reports + n.acks + n.mended
  pub none_malformed : sum (adds malformed) ps ≡ 0
  pub none_waiting : sum waiting ps ≡ 0
  pub in_frames_lem : sum in_frames ps ≡ 23 * (n.reports + n.mended) + 18 * n.acks
  pub begun : sum (adds resyncs) ps + pending q + n.mended ≡ pending p + n.cuts + n.starts

-- Nothing is closed.
pub tally_open : {p q : List ℕ} (c b : ℕ) → pending q ≡ pending p + c + b → Tally p [] q (opening c b)
tally_open c b e = record {
  decoded = refl;
  none_malformed = refl;
  none_waiting = refl;
  in_frames_lem = refl;
  begun = omega arith;
}

pub tally_stray : (b : ℕ) → Tally [] (stray b ∷ []) [] (opening 0 0)
tally_stray b = record {
  decoded = refl;
  none_malformed = refl;
  none_waiting = refl;
  in_frames_lem = refl;
  begun = refl;
}

-- One frame is closed: a report or an acknowledgement if nothing was pending, else a mended report.
pub tally_whole : {p : List ℕ} (f : List ℕ) (r a m : ℕ) → decodes f ≡ true → r + a + m ≡ 1
    → length f ≡ 23 * (r + m) + 18 * a → pending p ≡ m → Tally p (whole f ∷ []) [] (ending r a m)
tally_whole f r a m d one l e = record {
  decoded = rw d (omega arith);
  none_malformed = rw d;
  none_waiting = refl;
  in_frames_lem = omega arith;
  begun = omega arith;
}

-- What is pending is broken first.
pub tally_broke : (p : List ℕ) {ps : List Piece} {q : List ℕ} {n : Content} → Tally [] ps q n
    → Tally p (broke p ++ ps) q n
tally_broke [] t = t
tally_broke (b ∷ p) t = record {
  decoded = omega arith;
  none_malformed = omega arith;
  none_waiting = omega arith;
  in_frames_lem = omega arith;
  begun = omega arith;
}

pub tally_append : {p q r : List ℕ} {ps qs : List Piece} {m n : Content} → Tally p ps q m → Tally q qs r n
    → Tally p (ps ++ qs) r (both m n)
tally_append {ps = ps} {qs} a b = record {
  decoded = omega (arith, sum-append (adds frames) ps qs);
  none_malformed = omega (arith, sum-append (adds malformed) ps qs);
  none_waiting = omega (arith, sum-append waiting ps qs);
  in_frames_lem = omega (arith, sum-append in_frames ps qs);
  begun = omega (arith, sum-append (adds resyncs) ps qs);
}

-- The unfinished end waits, and adds to nothing else.
pub leftover_adds : (f : Piece → ℕ) → ((s : List ℕ) → f (unfinished s) ≡ 0) → (ps : List Piece) (q : List ℕ)
    → sum f (ps ++ leftover q) ≡ sum f ps
leftover_adds f e ps [] = rw append-nil
leftover_adds f e ps (b ∷ q) = omega (arith, sum-append f ps (leftover (b ∷ q)), e (b ∷ q))

pub leftover_waits : (ps : List Piece) (q : List ℕ) → sum waiting (ps ++ leftover q) ≡ sum waiting ps + length q
leftover_waits ps [] = rw append-nil (omega arith)
leftover_waits ps (b ∷ q) = omega (arith, sum-append waiting ps (leftover (b ∷ q)))

module _ (F : Framing) where
  -- No byte is lost.
  closed_length : (p s : List ℕ) → length (spelled (closed F p s)) + length (rest F p s) ≡ length p + length s
  closed_length p [] = omega arith
  closed_length p (c ∷ s) =
      let r = step F p c in
      rw (spelled_append r.closed (closed F r.pending s)) (omega (
        arith,
        length-append (spelled r.closed) (spelled (closed F r.pending s)),
        closed_length r.pending s,
        step_length F p c,
      ))

  pub record Scans (p s : List ℕ) (ps : List Piece) (q : List ℕ) : Type 0 where
    pub closes : closed F p s ≡ ps
    pub leaves : rest F p s ≡ q

  -- A whole frame, and a string that waits.
  pub whole_scans : (f : List ℕ) → F.Whole f → Scans [] f (whole f ∷ []) []
  whole_scans f w = record {
    closes = ap (closed F []) (sym (append-nil f)) ∙ sym (division_finished F (is_whole w is_empty));
    leaves = rest_whole F f w;
  }

  pub open_scans : (p : List ℕ) → Waits F p → Scans [] p [] p
  open_scans p w = record { closes = waits_closed F p w; leaves = waits_rest F p w }

  -- One byte that ends a frame, leaves the string open, or is stray.
  by_step : (p : List ℕ) (c : ℕ) (ps : List Piece) (q : List ℕ) (o : Option (List ℕ))
      → step F p c ≡ record { closed = ps; ended = o; pending = q } → Scans p (c ∷ []) ps q
  by_step p c ps q o e = record {
    closes = ap (λ (r : Step). r.closed ++ []) e ∙ append-nil ps;
    leaves = ap (λ (r : Step). r.pending) e;
  }

  pub end_scans : (p : List ℕ) (c : ℕ) → F.Whole (p ++ (c ∷ [])) → Scans p (c ∷ []) (whole (p ++ (c ∷ [])) ∷ []) []
  end_scans p c w = by_step p c _ _ _ (step_whole F p c w)

  pub on_scans : (p : List ℕ) (c : ℕ) → Waits F (p ++ (c ∷ [])) → Scans p (c ∷ []) [] (p ++ (c ∷ []))
  on_scans p c w = by_step p c _ _ _ (step_on F p c w)

  pub stray_scans : (c : ℕ) → ¬ F.Open (c ∷ []) → Scans [] (c ∷ []) (stray c ∷ []) []
  stray_scans c n = by_step [] c _ _ _ (step_over F [] c n)

  -- A byte that breaks what is pending does what it would do alone.
  pub over_scans : (p : List ℕ) (c : ℕ) {t : List ℕ} {ps : List Piece} {q : List ℕ} → ¬ F.Open (p ++ (c ∷ []))
      → Scans [] (c ∷ t) ps q → Scans p (c ∷ t) (broke p ++ ps) q
  over_scans [] c n r = r
  over_scans (b ∷ p) c {t} n r =
      let e = step_over F (b ∷ p) c n in
      record {
        closes = ap (λ (x : Step). x.closed ++ closed F x.pending t) e
            ∙ ap (λ (l : List Piece). broken (b ∷ p) ∷ l) r.closes;
        leaves = ap (λ (x : Step). rest F x.pending t) e ∙ r.leaves;
      }

  -- A frame that s closes ends in its place, and so does one that ends after s.
  module _ (p s u : List ℕ) where
    pub ends-here : (ps : List Piece) → Scans p s (ps ++ (whole s ∷ [])) []
        → Ends (from F p (s ++ u)) (length p + length s) s
    ends-here ps r =
        let spelt = spelled_append ps (whole s ∷ []) in
        let e = rw (r.closes, r.leaves, spelt, append-nil s) at (closed_length p s) in
        rw (from-append F p s u, r.closes, r.leaves, append_assoc ps (whole s ∷ []) (from F [] u))
        (ends_to (omega (arith, length-append (spelled ps) s)) (ends_after ps (here refl refl)))

    pub ends_later : {ps : List Piece} {q : List ℕ} (n : ℕ) {f : List ℕ} → Scans p s ps q
        → Ends (from F q u) (length q + n) f → Ends (from F p (s ++ u)) (length p + (length s + n)) f
    ends_later n r x =
        let e = rw r.leaves at (closed_length p s) in
        rw (from-append F p s u, r.leaves) (ends_to (omega arith) (ends_after (closed F p s) x))
