-- A buffer that is filled piece by piece.
--   Filling s out x at left   the first pieces of the load of the seed s are put into the buffer `out`, up to place
--                             `at`; the buffer is now `left`, and the generator holds x
use mathlib.Core.Path.{◌≡◌, sym, ap, ◌∙◌}
use mathlib.Core.List.{List, [], ◌++◌, append_assoc, append-nil}
use Prim.Native.Nat.{ℕ, ◌+◌, ◌-◌, ◌≤◌, ◌<◌}
use native.Mathlib.Omega.{arith}
use lib.ListN.{length}
use Rattle.std.specs.Prelude.{Some, None}
use Rattle.std.specs.declared.option.Option.{Option}
use borrow.Author.Tests.{leb-true, leb-false}
use Rattle.wire.proofs.Conditions.{cond-true, cond-false}
use Rattle.writer.specs.Put.{has_room, placed, put_in}
use Rattle.writer.specs.Written.{written}
use Rattle.writer.proofs.PutFits.{placed_fits, put_fails}
use Rattle.writer.proofs.Chain.{Put, put_nil, put_next, put_written, written_length}
use Rattle.load_writer.specs.Load.{piece, laid_down}
use Rattle.load_writer.proofs.Fitting.{piece_not_empty, load_more, load_stops}

-- A put that gives its end had room, and one that gives none had not.
placed_end : (out : List ℕ) (at : ℕ) (b : List ℕ) {e : ℕ} → placed out at b ≡ Some e
    → (at + length b ≤ length out) × (e ≡ at + length b)
unfolding placed
placed_end out at b q =
    let room = leb-true _ _ (cond-true (has_room out at b) (Some (at + length b)) None q (λ z. cc)) in
    let told = sym q ∙ placed_fits out at b room in
    (room, cc)

placed_short : (out : List ℕ) (at : ℕ) (b : List ℕ) → placed out at b ≡ None → length out < at + length b
unfolding placed
placed_short out at b q = leb-false _ _ (cond-false (has_room out at b) (Some (at + length b)) None q (λ z. cc))

pub record Filling (s : ℕ) (out : List ℕ) (x at : ℕ) (left : List ℕ) : Type 0 where
  pub done : List ℕ
  pub put : Put out 0 done at left
  pub rest : done ++ laid_down x (length out - at) ≡ laid_down s (length out)

pub filling_start : (s : ℕ) {x : ℕ} → x ≡ s → (out : List ℕ) → Filling s out x 0 out
filling_start s e out =
    let z : length out - 0 ≡ length out = omega arith in
    record { done = []; put = put_nil out 0 (omega arith); rest = rw (z, e) }

module _ {s : ℕ} {out : List ℕ} {x at : ℕ} {left : List ℕ} (h : Filling s out x at left) where
  same_length : length left ≡ length out
  same_length =
      ap length (put_written h.put) ∙ written_length out h.done (omega (arith, h.put.ends, h.put.room))

  -- A piece that is put, and one that has no room.
  module _ {told : Option ℕ} {next : List ℕ} (placing : told ≡ placed left at (piece x).bytes)
      (holds : next ≡ put_in left at (piece x).bytes) where
    room : {end : ℕ} → told ≡ Some end → (at + length (piece x).bytes ≡ end) × (end ≤ length out)
    room e =
        let p = placed_end left at (piece x).bytes (sym placing ∙ e) in
        let n = same_length in
        (omega (arith, p.1), omega (arith, p.0, p.1))

    pub filling_next : {end y : ℕ} → y ≡ (piece x).next → told ≡ Some end → Filling s out y end next
    filling_next {end} q e =
        let b = (piece x).bytes in
        let p = room e in
        let more = load_more x (length out - at) (omega (arith, p.0, p.1)) in
        let z : length out - at - length b ≡ length out - end = omega (arith, p.0) in
        record {
          done = h.done ++ b;
          put = put_next h.put b end holds (sym p.0) p.1;
          rest = rw q (append_assoc h.done b _ ∙ rw (← z, ← more) h.rest);
        }

    -- Every piece has a byte, so there is less room.
    pub filling_less : {end : ℕ} → told ≡ Some end → length out - end < length out - at
    filling_less e = let p = room e in omega (arith, p.0, p.1, piece_not_empty x)

    short : told ≡ None → length left < at + length (piece x).bytes
    short e = placed_short left at (piece x).bytes (sym placing ∙ e)

    -- The next piece would pass the end: the load is whole, and nothing is put.
    pub filling_ends : told ≡ None
        → record {
          count : at ≡ length (laid_down s (length out));
          left : next ≡ written out (laid_down s (length out));
        }
    filling_ends e =
        let passes = short e in
        let n = same_length in
        let none = load_stops x (length out - at) (omega arith) in
        let whole : h.done ≡ laid_down s (length out) = sym (append-nil h.done) ∙ rw none at h.rest in
        let kept = holds ∙ put_fails left at (piece x).bytes passes in
        record {
          count = rw (← whole) (omega (arith, h.put.ends));
          left = kept ∙ rw (← whole) (put_written h.put);
        }
