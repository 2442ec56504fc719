-- A writer and a reader that agree on the frame of a value agree on every buffer: one law for all round
-- trips.
use mathlib.Core.Path.{◌≡◌, refl, sym, ◌∙◌}
use mathlib.Core.Logic.{◌↔◌}
use mathlib.Core.List.{List}
use mathlib.Core.Bool.{Bool, true, false}
use Rattle.std.specs.Prelude.{None, Ok, Err}
use Rattle.std.specs.declared.result.Result.{Result}
use Prim.Native.Nat.{ℕ, ◌≤◌}
use native.Mathlib.Omega.{arith}
use lib.ListN.{length, take}
use borrow.Author.Tests.{le-leb}
use Rattle.wire.specs.Bytes.{Bytes}
use Rattle.wire.specs.Family.{framed}
use Rattle.wire.specs.declared.Kind.{Kind}
use Rattle.refusal.specs.Refusal.{number_of, refusal_of}
use Rattle.refusal.specs.declared.Error.{Error}
use Rattle.refusal.specs.declared.Error.TheVariants.{Unrepresentable}
use Rattle.writer.specs.Written.{written, unless, framable, WriteCauses}
use Rattle.writer.specs.RoundTrip.{Codec, writes, leaves, Written, RoundTrip}
use Rattle.writer.proofs.Chain.{written_front}
use Rattle.writer.proofs.Writers.{Wrote, Shown, wrote_refused, wrote_all, wrote_whole, none_good}
use Rattle.writer.proofs.Writers.{write_causes, shown}

-- What is shown of the value v, which is refused with e unless it is good; no buffer is mentioned.
pub record Agreed {A : Type 0} (C : Codec A) (v : A) (e : Error) (good : Bool) : Type 0 where
  pub refused : C.refusal v ≡ unless good e
  pub number : C.number ≡ number_of e
  pub apart : number_of e ≡ 4 → ⊥
  pub some : number_of e ≡ 0 → ⊥
  -- the frame of a good value is within the limits, kept, and read as the value
  pub bytes : good ≡ true → Bytes (C.frame v)
  pub written : good ≡ true → Written C v (C.frame v)
  -- a value read from a string within the limits is good, and if that string is kept, it is the value's frame
  pub found : (s : List ℕ) → Bytes s → C.Within s → C.Reads s v → good ≡ true
  pub again : (s : List ℕ) → Bytes s → C.Within s → C.Kept s → C.Reads s v → C.frame v ≡ s

-- What the contract of a writer asks: its answer, its buffer, the causes, and the round trip.
abbrev pub ShownRound : {A : Type 0} → Codec A → A → Bool → List ℕ → Result ℕ Error → List ℕ → Type 0
ShownRound C v good out r left =
    record {
      told : r ≡ writes C v out;
      left : left ≡ leaves C v out;
      causes : WriteCauses C.number (good ≡ false) (C.frame v) (length out) r;
      round : RoundTrip C v;
    }

module _ {A : Type 0} {C : Codec A} {v : A} {e : Error} {good : Bool} (h : Agreed C v e good) where
  read_back : (out : List ℕ) (n : ℕ) → writes C v out ≡ Ok n → Written C v (take n (leaves C v out))
  read_back out n q =
      let a = wrote_all (C.frame v) out (leaves C v out) n (C.refusal v) (sym q, refl) in
      let g = none_good good e (sym h.refused ∙ a.good) in
      rw (a.content, a.size, written_front out (C.frame v)) (h.written g)

  written_again : (s : List ℕ) → Bytes s → C.Within s → C.Kept s → C.Reads s v → (out : List ℕ)
      → length s ≤ length out → (writes C v out ≡ Ok (length s)) × (leaves C v out ≡ written out s)
  written_again s b w k r out l =
      let x = wrote_whole s out (length s) (written out s) refl l refl in
      rw (h.refused, h.found s b w r, h.again s b w k r) (sym x.0, sym x.1)

  -- A value is bad exactly if it is read from no string of bytes within the limits.
  abbrev Unread : Type 0
  Unread = (s : List ℕ) → Bytes s → C.Within s → C.Reads s v → ⊥

  bad_unread : good ≡ false → Unread
  bad_unread q s b w r =
      let g = h.found s b w r in
      let z : ◌≡◌ {A = ℕ} 0 1 = cc in
      omega arith

  unread_bad : (g : Bool) → good ≡ g → Unread → good ≡ false
  unread_bad true q u = let w = h.written q in absurd (u (C.frame v) (h.bytes q) w.within w.read)
  unread_bad false q u = q

  refused_exactly : (out : List ℕ) → (refusal_of (writes C v out) ≡ C.number) ↔ Unread
  refused_exactly out =
      let bad = (write_causes e h.apart h.some (C.frame v) (length out) good).refused in
      rw (h.refused, h.number) (λ z. bad_unread (bad.0 z), λ u. bad.1 (unread_bad good refl u))

  -- Writer and reader agree on the value.
  pub round_trip : RoundTrip C v
  round_trip = record { back = read_back; exact = refused_exactly; again = written_again }

  round_shown : (out left : List ℕ) {r : Result ℕ Error} → Wrote (unless good e) (C.frame v) out r left
      → ShownRound C v good out r left
  round_shown out left w =
      let x = shown e h.apart h.some good (C.frame v) out left w in
      record {
        told = rw h.refused w.0;
        left = rw h.refused w.1;
        causes = rw h.number x.causes;
        round = round_trip;
      }

  -- What a writer may do: refuse the value; or, if it is good, frame its data d, which the code has as b.
  pub round_refused : (out : List ℕ) → good ≡ false → ShownRound C v good out (Err e) out
  round_refused out q = round_shown out out (rw q (wrote_refused (C.frame v) out e))

  pub round_framed : (k : Kind) (d out b left : List ℕ) {r : Result ℕ Error} → C.frame v ≡ framed k d → length d ≤ 65535
      → good ≡ true → b ≡ d → Shown Unrepresentable (framable b) (framed k b) out r left
      → ShownRound C v good out r left
  round_framed k d out b left f l g q s =
      let e = le-leb (length d) 65535 l in
      let told = rw (q, e) at s.told in
      let kept = rw (q, e) at s.left in
      round_shown out left (rw (g, f) (told, kept))

  -- Or, if it is good, write its frame without `put_frame`.
  pub round_wrote : (out left : List ℕ) {r : Result ℕ Error} → good ≡ true → Wrote None (C.frame v) out r left
      → ShownRound C v good out r left
  round_wrote out left g w = round_shown out left (rw g w)
