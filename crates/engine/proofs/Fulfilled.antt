-- A lawful engine fulfils demand 3, from every valid state, for every list of calls with bytes.
use mathlib.Core.Path.{◌≡◌, refl, sym, ◌∙◌, ap}
use mathlib.Core.List.{List, [], ◌∷◌, ◌++◌, append_assoc, append-nil}
use Prim.Native.Nat.{ℕ, ◌+◌, min}
use native.Mathlib.Omega.{arith}
use lib.ListN.{length}
use Rattle.wire.specs.Bytes.{Every}
use Rattle.framing.proofs.Framing.{Framing}
use Rattle.framing.proofs.Counting.{Counting, total}
use Rattle.framing.proofs.Scanner.{closed, rest}
use Rattle.framing.proofs.Division.{sum-append}
use Rattle.framing.proofs.Scanned.{from, from_is, divided}
use Rattle.framing.proofs.Append.{finished_total, from_finished, division_cut}
use Rattle.framing.proofs.Rest.{rest_append, closed_append, waits_closed, waits_rest}
use Rattle.engine.specs.Engine.{Engine, history, final}
use Rattle.engine.specs.Calls.{Call, feed, slice, reset, ByteCall, Did, fed, sliced, cleared, taken}
use Rattle.engine.specs.Calls.{stretches, so_far}
use Rattle.engine.specs.Fulfilled.{deliveries, join_over, sum_over, Fulfilled}
use Rattle.engine.proofs.Lawful.{Decoding, protocol_of, Lawful}
use Rattle.engine.proofs.Deliveries.{answers_of, answers_append, leftover_answers}
use Rattle.engine.proofs.Moves.{DidRight, Moves, moves_byte, slice_moves, feed_right, slice_right}
use Rattle.engine.proofs.Rights.{Rights, rights_none, rights_more, pieces, call_right}

module _ (F : Framing) {A K : Type 0} (D : Decoding A) (C : Counting K) where
  -- The unfinished end adds no answer, and nothing to a counter.
  closed_answers : (u : List ℕ) → answers_of D (from F [] u) ≡ answers_of D (closed F [] u)
  closed_answers u = rw (from_is F [] u, answers_append D, leftover_answers D (rest F [] u), append-nil)

  closed_adds : (k : K) (u : List ℕ) → total C k (from F [] u) ≡ total C k (closed F [] u)
  closed_adds k u = sym (finished_total C k (from F [] u)) ∙ ap (total C k) (from_finished F [] u)

module _ (F : Framing) {S A K : Type 0} (D : Decoding A) (C : Counting K) (E : Engine S A K)
    {Valid : S → Type 0} (L : Lawful F D C E Valid) where
  -- The calls that did ds lead from s to s'; before them their stretch has the bytes u.
  record Run (u : List ℕ) (s : S) (ds : List (Did A)) (s' : S) : Type 0 where
    valid : Valid s'
    stands : E.pending s' ≡ rest F [] (so_far u ds)
    rights : Rights (protocol_of F D C) (pieces F D C) u ds
    deliver : answers_of D (closed F [] u) ++ deliveries D.delivers ds
        ≡ join_over (λ t. answers_of D (from F [] t)) (stretches u ds)
    count : (k : K) → (g : ℕ) × (E.counter k s' ≡ min (E.counter k s + g) E.max)
        × (total C k (closed F [] u) + g ≡ sum_over (λ t. total C k (from F [] t)) (stretches u ds))

  run_none : (u : List ℕ) (s : S) → Valid s → E.pending s ≡ rest F [] u → Run u s [] s
  run_none u s ok e = record {
    valid = ok;
    stands = e;
    rights = rights_none (protocol_of F D C) (pieces F D C) u;
    deliver = ap (λ (l : List A). l ++ []) (sym (closed_answers F D C u));
    count = λ k. (0, omega (arith, L.capped s ok k), omega (arith, closed_adds F D C k u));
  }

  -- A feed or a slice, then the calls after it.
  run_took : (u : List ℕ) (s : S) (d : Did A) (s₁ : S) (ds : List (Did A)) (s' : S)
      → E.pending s ≡ rest F [] u → Moves F D C E L s (taken d) s₁ → DidRight F D (E.pending s) d
      → ((es : List (Did A)) → so_far u (d ∷ es) ≡ so_far (u ++ taken d) es)
      → stretches u (d ∷ ds) ≡ stretches (u ++ taken d) ds
      → (Valid s₁ → E.pending s₁ ≡ rest F [] (u ++ taken d) → Run (u ++ taken d) s₁ ds s') → Run u s (d ∷ ds) s'
  run_took u s d s₁ ds s' e m r q q' on =
      let t = taken d in
      let x = on m.valid (m.pending ∙ ap (λ (p : List ℕ). rest F p t) e ∙ sym (rest_append F [] u t)) in
      let c = closed_append F [] u t in
      record {
        valid = x.valid;
        stands = x.stands ∙ ap (rest F []) (sym (q ds));
        rights = rights_more (protocol_of F D C) (pieces F D C) u (u ++ t) d ds q
            (λ v. call_right F D C u v d (rw e at r)) x.rights;
        deliver = rw (r.delivered, e, q', ← x.deliver, c, answers_append D)
            (sym (append_assoc (answers_of D (closed F [] u)) (answers_of D (closed F (rest F [] u) t))
            (deliveries D.delivers ds)));
        count = λ k.
            let y = x.count k in (
              total C k (closed F (E.pending s) t) + y.0,
              omega (arith, y.1, m.counter k),
              rw q' (omega (
                arith,
                y.2,
                ap (total C k) c,
                sum-append (C.adds k) (closed F [] u) (closed F (rest F [] u) t),
                ap (λ (p : List ℕ). total C k (closed F p t)) e,
              )),
            );
      }

  run_reset : (u : List ℕ) (s : S) (ds : List (Did A)) (s' : S) → Valid s → Run [] (E.reset s) ds s'
      → Run u s (cleared ∷ ds) s'
  run_reset u s ds s' ok x = record {
    valid = x.valid;
    stands = x.stands;
    rights = rights_more (protocol_of F D C) (pieces F D C) u [] cleared ds (λ es. refl) (λ v. tt) x.rights;
    deliver = rw (closed_answers F D C u) (ap (λ (l : List A). answers_of D (closed F [] u) ++ l) x.deliver);
    count = λ k.
        let y = x.count k in (
          y.0,
          omega (arith, y.1, L.reset_counter s ok k),
          omega (arith, y.2, closed_adds F D C k u),
        );
  }

  runs : (calls : List Call) (u : List ℕ) (s : S) → Valid s → E.pending s ≡ rest F [] u → Every ByteCall calls
      → Run u s (history E s calls) (final E s calls)
  runs [] u s ok e h = run_none u s ok e
  runs (reset ∷ cs) u s ok e h = run_reset u s (history E (E.reset s) cs) (final E (E.reset s) cs) ok
      (runs cs [] (E.reset s) (L.reset_valid s ok) (L.reset_pending s ok) h.1)
  runs (feed b ∷ cs) u s ok e h =
      let s₁ = (E.feed s b).0 in
      run_took u s (fed b (E.feed s b).1) s₁ (history E s₁ cs) (final E s₁ cs) e (moves_byte F D C E L s b ok h.0)
      (feed_right F D C E L s b ok h.0) (λ es. refl) refl (λ ok₁ e₁. runs cs (u ++ (b ∷ [])) s₁ ok₁ e₁ h.1)
  runs (slice bs ∷ cs) u s ok e h =
      let r = E.slice s bs in
      let s₁ = r.state in
      let d = sliced bs r.told r.answer in
      run_took u s d s₁ (history E s₁ cs) (final E s₁ cs) e (slice_moves F D C E L s bs ok h.0)
      (slice_right F D C E L s bs ok h.0) (λ es. refl) refl (λ ok₁ e₁. runs cs (u ++ taken d) s₁ ok₁ e₁ h.1)

  -- Demand 3.
  pub fulfilled : (s : S) → Valid s → (calls : List Call) → Every ByteCall calls
      → Fulfilled (protocol_of F D C) E (E.pending s) s calls
  unfolding divided
  fulfilled s ok calls h =
      let p = E.pending s in
      let w = L.pending_waits s ok in
      let x = runs calls p s ok (sym (waits_rest F p w)) h in
      let none = waits_closed F p w in
      let left = x.stands ∙ sym (division_cut F (divided F (so_far p (history E s calls))).division) in
      record {
        divide = divided F;
        right = x.rights;
        delivered = rw none at x.deliver;
        counted = λ k. let y = x.count k in omega (arith, y.1, y.2, ap (total C k) none);
        pending = left;
        unfinished = L.pending_length (final E s calls) x.valid ∙ ap length left;
      }

  -- The state stays valid.
  pub final_valid : (s : S) (calls : List Call) → Valid s → Every ByteCall calls → Valid (final E s calls)
  final_valid s calls ok h =
      (runs calls (E.pending s) s ok (sym (waits_rest F (E.pending s) (L.pending_waits s ok))) h).valid
