-- What is pending between two pieces of a load, and what a byte does to it.
--   Begun k z m x     the m pieces after the number z are one byte each, the first m of the header of k; x is the
--                     number after them
--   Pends c x p       p may be pending when the generator holds x; c tells whether p is a report without its last byte
--   Reads p s n c y   after the pending string p, the string s of the content n closes what this adds up to, and leaves
--                     a string that may be pending when the generator holds y, as c tells
--   begins b          whether the byte b begins a header
--   of_byte c b        the content of the single byte b; c tells whether a report without its last byte is before it
use mathlib.Core.Path.{◌≡◌, refl, sym, ◌∙◌, subst}
use mathlib.Core.Logic.{⊎_elim}
use mathlib.Core.List.{List, [], ◌∷◌, ◌++◌}
use mathlib.Core.Bool.{Bool, true, false, cond, ◌&&◌, ◌||◌}
use Prim.Native.Nat.{ℕ, suc, ◌^◌, ◌≤◌, ◌<◌}
use native.Mathlib.Decide.{dec_le}
use native.Mathlib.Omega.{arith}
use lib.Dec.{eqb}
use lib.ListN.{get_or, take}
use lib.Seq.{take-suc}
use borrow.Author.Tests.{eq-eqb, ne_eqb, eqb-true, eqb-false}
use Rattle.wire.specs.Family.{header, framed}
use Rattle.wire.proofs.Families.{header_length}
use Rattle.wire.specs.declared.Kind.{Kind}
use Rattle.wire.specs.declared.Kind.TheVariants.{Report, Command}
use Rattle.framing.specs.Piece.{Piece, stray, whole}
use Rattle.stream.specs.Open.{Open}
use Rattle.stream.specs.Recovery.{Plain}
use Rattle.stream.proofs.Steps.{header_opens, header_not_whole}
use Rattle.stream.proofs.Link.{link, is_open, not_open, not_whole}
use Rattle.stream.proofs.Idle.{first, first_waits, plain_or_first, plain_strays, tail_apart, header_apart}
use Rattle.load_writer.specs.Load.{after, drawn, basic_report}
use Rattle.load_writer.specs.Counts.{choice, byte_of}
use Rattle.load_writer.proofs.Linear.{no_report_header, no_command_header}
use Rattle.load_writer.proofs.Frames.{report_decodes, report_whole, cut_goes_on}
use Rattle.load_writer.proofs.Scanning.{Content, pending, broke, Tally, tally_open, tally_stray, tally_whole}
use Rattle.load_writer.proofs.Scanning.{tally_broke, Scans, open_scans, end_scans, on_scans, stray_scans}
use Rattle.load_writer.proofs.Scanning.{over_scans}

pub data Begun (k : Kind) (z : ℕ) : ℕ → ℕ → Type 0 where
  none : Begun k z 0 z
  more : {m x : ℕ} → Begun k z m x → choice x ≡ 0 → byte_of x ≡ get_or (header k) m 0 → Begun k z (suc m) (after 2 x)

pub data Pends : Bool → ℕ → List ℕ → Type 0 where
  nothing : {x : ℕ} → Pends false x []
  begun : {x : ℕ} (k : Kind) (m z : ℕ) → m < 3 → z < 2 ^ 32 → Begun k z (suc m) x
      → Pends false x (take (suc m) (header k))
  cut : {x : ℕ} (y : ℕ) → Pends true x (take 22 (basic_report (drawn 9 y)))

begun_pending : (k : Kind) (m : ℕ) → pending (take (suc m) (header k)) ≡ 1
begun_pending Report m = omega arith
begun_pending Command m = omega arith

cut_pending : (y : ℕ) → pending (take 22 (basic_report (drawn 9 y))) ≡ 1
unfolding framed
cut_pending y = refl

-- Three bytes of a header are followed by no fourth.
no_fourth : (k : Kind) {z x : ℕ} → z < 2 ^ 32 → Begun k z 3 x → choice x ≡ 0 → ⊥
no_fourth Report l (more (more (more none e q) e' q') e'' q'') o = no_report_header _ l e q e' q' e'' q'' o
no_fourth Command l (more (more (more none e q) e' q') e'' q'') o = no_command_header _ l e q e' q' e'' q'' o

abbrev begins : ℕ → Bool
begins b = eqb b 0xF4 || eqb b 0xFD

-- Of a header's bytes, only the first begins one.
plain_begins : (b : ℕ) → Plain b → begins b ≡ false
plain_begins b h = rw (ne_eqb b 0xF4 h.0, ne_eqb b 0xFD h.1)

first_begins : (k : Kind) → begins (first k) ≡ true
first_begins Report = refl
first_begins Command = refl

later_begins : (k : Kind) (m : ℕ) → m < 3 → begins (get_or (header k) (suc m) 0) ≡ false
later_begins k m h = plain_begins (get_or (header k) (suc m) 0) (
  λ e. eqb-false _ _ (header_apart Report k m h) (sym e),
  λ e. eqb-false _ _ (header_apart Command k m h) (sym e),
)

abbrev pub of_byte : Bool → ℕ → Content
of_byte c b =
    record { reports = 0; cuts = 0; acks = 0; starts = cond (begins b) 1 0; mended = cond (c && eqb b 0xF5) 1 0 }

module _ (limit : ℕ) where
  pub record Reads (p s : List ℕ) (n : Content) (c : Bool) (y : ℕ) : Type 0 where
    pub pieces : List Piece
    pub left : List ℕ
    pub tally : Tally p pieces left n
    pub scans : Scans (link limit) p s pieces left
    pub pends : Pends c y left

  module _ (room : 13 ≤ limit) where
    -- A frame, whole or cut, breaks what is pending, and is read as if nothing were.
    pub anew : {c : Bool} {x : ℕ} {p : List ℕ} → Pends c x p → (j : Kind) {t : List ℕ} {ps : List Piece} {q : List ℕ}
        → Scans (link limit) [] (first j ∷ t) ps q → Scans (link limit) p (first j ∷ t) (broke p ++ ps) q
    anew nothing j r = r
    anew (begun k m z h l b) j r = over_scans (link limit) (take (suc m) (header k)) (first j)
        (not_open limit _ (header_opens limit k m (first j) h ∙ header_apart j k m h)) r
    anew (cut y) j r = over_scans (link limit) (take 22 (basic_report (drawn 9 y))) (first j)
        (not_open limit _ (cut_goes_on limit room y (first j) ∙ tail_apart j Report 3 (omega arith))) r

    -- A piece of one byte, after the number x.
    module _ (x : ℕ) (l : x < 2 ^ 32) (e : choice x ≡ 0) where
      -- With nothing before it.
      alone : Reads [] (byte_of x ∷ []) (of_byte false (byte_of x)) false (after 2 x)
      alone = ⊎_elim
          (λ n. record {
            pieces = stray (byte_of x) ∷ [];
            left = [];
            tally = rw (plain_begins (byte_of x) n) (tally_stray (byte_of x));
            scans = stray_scans (link limit) (byte_of x) (plain_strays limit (byte_of x) n);
            pends = nothing;
          })
          (λ k. record {
            pieces = [];
            left = take 1 (header k.0);
            tally = rw (k.1, first_begins k.0) (tally_open 0 1 (begun_pending k.0 0));
            scans = rw (k.1, take-suc (header k.0) 0 0 (omega (arith, header_length k.0)))
                (open_scans (link limit) (first k.0 ∷ []) (first_waits limit k.0));
            pends = begun k.0 0 x (omega arith) l (more none e k.1);
          })
          (plain_or_first (byte_of x))

      -- It breaks what it does not fit.
      over : (p : List ℕ) → ¬ Open limit (p ++ (byte_of x ∷ []))
          → Reads p (byte_of x ∷ []) (of_byte false (byte_of x)) false (after 2 x)
      over p n =
          let r = alone in
          record {
            pieces = broke p ++ r.pieces;
            left = r.left;
            tally = tally_broke p r.tally;
            scans = over_scans (link limit) p (byte_of x) n r.scans;
            pends = r.pends;
          }

      -- After a part of a header: its next byte is added to it.
      module _ (k : Kind) (m z : ℕ) (h : m < 3) (l' : z < 2 ^ 32) (b : Begun k z (suc m) x) where
        more_begun : m ≤ 1 → byte_of x ≡ get_or (header k) (suc m) 0
            → Reads (take (suc m) (header k)) (byte_of x ∷ []) (of_byte false (byte_of x)) false (after 2 x)
        more_begun u q =
            let v = byte_of x in
            record {
              pieces = [];
              left = take (suc (suc m)) (header k);
              tally = rw (q, later_begins k m h)
                  (tally_open 0 0 (omega (arith, begun_pending k m, begun_pending k (suc m))));
              scans = rw (take-suc (header k) (suc m) 0 (omega (arith, header_length k)), ← q)
                  (on_scans (link limit) (take (suc m) (header k)) v (
                    is_open limit _ (header_opens limit k m v h ∙ eq-eqb v _ q),
                    not_whole limit _ (header_not_whole limit k m v h),
                  ));
              pends = begun k (suc m) z (omega arith) l' (more b e q);
            }

        after_begun : Reads (take (suc m) (header k)) (byte_of x ∷ []) (of_byte false (byte_of x)) false (after 2 x)
        after_begun = go (dec_le m 1) (eqb (byte_of x) (get_or (header k) (suc m) 0)) refl
          where
            go : Dec (m ≤ 1) → (t : Bool) → eqb (byte_of x) (get_or (header k) (suc m) 0) ≡ t
                → Reads (take (suc m) (header k)) (byte_of x ∷ []) (of_byte false (byte_of x)) false (after 2 x)
            go (yes u) true q = more_begun u (eqb-true (byte_of x) _ q)
            go (yes u) false q = over _ (not_open limit _ (header_opens limit k m (byte_of x) h ∙ q))
            go (no u) t q =
                let two : m ≡ 2 = omega arith in
                absurd (no_fourth k l' (subst (λ (n : ℕ). Begun k z (suc n) x) two b) e)

      -- After a cut report: the last byte of a report's tail makes it whole.
      module _ (y : ℕ) where
        mends : Reads (take 22 (basic_report (drawn 9 y))) (0xF5 ∷ []) (of_byte true 0xF5) false (after 2 x)
        unfolding framed
        mends = record {
          pieces = whole (basic_report (drawn 9 y)) ∷ [];
          left = [];
          tally = tally_whole _ 0 0 1 (report_decodes y) refl refl (cut_pending y);
          scans = end_scans (link limit) (take 22 (basic_report (drawn 9 y))) 0xF5 (report_whole limit room y);
          pends = nothing;
        }

        after_cut : Reads (take 22 (basic_report (drawn 9 y))) (byte_of x ∷ []) (of_byte true (byte_of x)) false
            (after 2 x)
        after_cut = go (eqb (byte_of x) 0xF5) refl
          where
            go : (t : Bool) → eqb (byte_of x) 0xF5 ≡ t
                → Reads (take 22 (basic_report (drawn 9 y))) (byte_of x ∷ []) (of_byte true (byte_of x)) false
                (after 2 x)
            go true q = rw (eqb-true (byte_of x) 0xF5 q) mends
            go false q = rw q (over _ (not_open limit _ (cut_goes_on limit room y (byte_of x) ∙ q)))

      -- It mends a cut report before it exactly if it is the byte that this lacks.
      pub byte_reads : {c : Bool} {p : List ℕ} → Pends c x p
          → Reads p (byte_of x ∷ []) (of_byte c (byte_of x)) false (after 2 x)
      byte_reads nothing = alone
      byte_reads (begun k m z h l' b) = after_begun k m z h l' b
      byte_reads (cut y) = after_cut y
