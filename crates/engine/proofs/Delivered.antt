-- From the claim alone, without a reset: the call that took the last byte of a whole frame delivered it, if it decodes.
-- The calls before it delivered the frames before, the calls after it the frames after. The crate `stream` cites this.
use mathlib.Core.Path.{◌≡◌, refl, sym, ◌∙◌, ap}
use mathlib.Core.List.{List, [], ◌∷◌, ◌++◌, append-nil, append_cancel_left, append_cancel_right}
use Prim.Native.Nat.{ℕ, ◌+◌, ◌-◌, ◌≤◌, ◌<◌}
use native.Mathlib.Omega.{arith}
use lib.ListN.{length, take, length-append}
use lib.Seq.{take_all, take_at, take-append-le, take-append-add}
use Rattle.wire.specs.Bytes.{Every}
use Rattle.wire.proofs.Bytes.{every_append, every_split}
use Rattle.framing.proofs.Framing.{Framing}
use Rattle.framing.specs.Piece.{Piece, whole}
use Rattle.framing.proofs.Counting.{Counting}
use Rattle.engine.specs.Engine.{Engine, call, history, final}
use Rattle.engine.specs.Calls.{Call, ByteCall, Goes, Did, taken, taken_by}
use Rattle.engine.specs.Fulfilled.{Protocol, delivery, deliveries, answer, answers, CallRight, Fulfilled}
use Rattle.engine.specs.Delivered.{DeliveredBy}
use Rattle.engine.proofs.Runs.{history_append}
use Rattle.engine.proofs.Lawful.{Decoding, protocol_of}
use Rattle.engine.proofs.Deliveries.{answers_of, answers_append}
use Rattle.engine.proofs.Accounts.{all_taken}
use Rattle.engine.proofs.Taken.{taken_append, deliveries_append, up_to_end, reach, stretch_delivered}
use Rattle.engine.proofs.LastByte.{Ending, exactly, delivers}

module _ (F : Framing) {S A K : Type 0} (D : Decoding A) (C : Counting K) (E : Engine S A K) (p : List ℕ) (s : S)
    (fulfils : (cs : List Call) → Every ByteCall cs → Fulfilled (protocol_of F D C) E p s cs) where
  module _ (calls : List Call) (bytes : Every ByteCall calls) (goes : Every Goes calls) {t v : List ℕ}
      {before : List Piece} {f : List ℕ} {after : List Piece} (end : Ending F p t v before f after)
      (taken_is : taken_by (history E s calls) ≡ t ++ v) where
    -- The frame's last byte was taken by the call c, after the calls cs and before es.
    module _ (cs : List Call) (c : Call) (es : List Call) (split : calls ≡ cs ++ (c ∷ es)) where
      abbrev one : Did A
      one = (call E (final E s cs) c).1

      abbrev earlier : List (Did A)
      earlier = history E s cs

      abbrev later : List (Did A)
      later = history E (call E (final E s cs) c).0 es

      histories : history E s calls ≡ earlier ++ (one ∷ later)
      histories = rw split (history_append (call E) s cs (c ∷ es))

      goes_parts : Every Goes cs × Every Goes (c ∷ es)
      goes_parts = every_split Goes cs (c ∷ es) (rw split at goes)

      right : CallRight (protocol_of F D C) (λ l. ((fulfils calls bytes).divide l).pieces) (p ++ taken_by earlier)
          (taken_by later) one
      right = rw (all_taken E cs p s goes_parts.0, up_to_end E es (call E (final E s cs) c).0 goes_parts.1.1) at
          ((fulfils calls bytes).right earlier one later histories)

      module _ (short : length (taken_by earlier) < length t)
          (long : length t ≤ length (taken_by earlier) + length (taken one)) where
        abbrev m : ℕ
        m = length t - length (taken_by earlier)

        -- The bytes t are those taken before the call, and a first part of those that it took.
        in_part : t ≡ taken_by earlier ++ take m (taken one)
        in_part =
            let q = taken_by earlier in
            let z : length t ≡ length q + m = omega arith in
            sym (take_at t v (length t) refl)
            ∙ ap (take (length t)) (sym taken_is ∙ ap taken_by histories ∙ taken_append earlier (one ∷ later))
            ∙ ap (λ (i : ℕ). take i (q ++ (taken one ++ taken_by later))) z
            ∙ take-append-add q (taken one ++ taken_by later) m
            ∙ ap (λ (l : List ℕ). q ++ l) (take-append-le m (taken one) (taken_by later) (omega arith))

        -- That part is all that the call took.
        last : t ≡ taken_by earlier ++ taken one
        last =
            let z = exactly F D C end (fulfils calls bytes).divide (taken_by earlier) (taken_by later) one right short
            (omega arith) in_part in
            in_part ∙ ap (λ (l : List ℕ). taken_by earlier ++ l) (take_all m (taken one) (omega arith))

        its : delivery D.delivers one ≡ answer D.decodes D.answer_of (whole f)
        its = delivers F D C end (fulfils calls bytes).divide (taken_by earlier) (taken_by later) one right last short

        -- The claim also holds of the calls up to this one, which took the bytes t.
        up_to : deliveries D.delivers earlier ++ (delivery D.delivers one ++ [])
            ≡ answers_of D before ++ (answer D.decodes D.answer_of (whole f) ++ [])
        up_to =
            let ds = cs ++ (c ∷ []) in
            let byte-parts = every_split ByteCall cs (c ∷ es) (rw split at bytes) in
            let h = history_append (call E) s cs (c ∷ []) in
            let x = fulfils ds (every_append ByteCall cs (c ∷ []) byte-parts.0 (byte-parts.1.0, tt)) in
            let g = every_append Goes cs (c ∷ []) goes_parts.0 (goes_parts.1.0, tt) in
            let all_of : taken_by (history E s ds) ≡ t = ap taken_by h ∙ taken_append earlier (one ∷ [])
            ∙ ap (λ (l : List ℕ). taken_by earlier ++ l) (append-nil (taken one)) ∙ sym last in
            sym (deliveries_append D.delivers earlier (one ∷ [])) ∙ ap (deliveries D.delivers) (sym h)
            ∙ stretch_delivered E F D C p s ds x g (before ++ (whole f ∷ [])) (rw all_of end.front)
            ∙ answers_append D before (whole f ∷ [])

        before_it : deliveries D.delivers earlier ≡ answers_of D before
        before_it = append_cancel_right (deliveries D.delivers earlier) (answers_of D before)
            (answer D.decodes D.answer_of (whole f) ++ []) (rw its at up_to)

        after_it : deliveries D.delivers later ≡ answers_of D after
        after_it =
            let whole_run : deliveries D.delivers earlier ++ (delivery D.delivers one
            ++ deliveries D.delivers later)
            ≡ answers_of D before ++ (answer D.decodes D.answer_of (whole f) ++ answers_of D after) =
            sym (deliveries_append D.delivers earlier (one ∷ later)) ∙ ap (deliveries D.delivers) (sym histories)
            ∙ stretch_delivered E F D C p s calls (fulfils calls bytes) goes (before ++ (whole f ∷ after))
            (rw taken_is end.all) ∙ answers_append D before (whole f ∷ after) in
            append_cancel_left (answer D.decodes D.answer_of (whole f)) (deliveries D.delivers later)
            (answers_of D after) (append_cancel_left (answers_of D before) _ _ (rw (before_it, its) at whole_run))

        by_call : DeliveredBy (protocol_of F D C) (history E s calls) t before f after
        by_call = record {
          earlier = earlier;
          call = one;
          later = later;
          split = histories;
          took = λ z. absurd (omega (arith, ap length z));
          last = sym last;
          its = its;
          before_it = before_it;
          after_it = after_it;
        }

    pub delivered_by : 0 < length t → DeliveredBy (protocol_of F D C) (history E s calls) t before f after
    delivered_by some =
        let r = reach E calls s (length t) some (omega (arith, ap length taken_is, length-append t v)) in
        by_call r.earlier r.at r.later r.split r.short r.long

-- So from that call on, the calls delivered the frame and those after it, as far as they decode.
pub delivered_on : {A K : Type 0} (P : Protocol A K) {ds : List (Did A)} {t f : List ℕ} {before after : List Piece}
    → (x : DeliveredBy P ds t before f after)
    → deliveries P.delivers ds
    ≡ deliveries P.delivers x.earlier ++ answers P.decodes P.answer_of (whole f ∷ after)
delivered_on P x =
    ap (deliveries P.delivers) x.split ∙ deliveries_append P.delivers x.earlier (x.call ∷ x.later)
    ∙ rw (x.its, x.after_it) refl
