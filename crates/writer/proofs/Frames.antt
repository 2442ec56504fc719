-- A frame put into a buffer: its four parts, one after the other, and the three answers.
use mathlib.Core.Path.{◌≡◌, refl, sym, ap, ◌∙◌}
use mathlib.Core.List.{List, append_assoc}
use Prim.Native.Nat.{ℕ, ◌+◌, ◌≤◌, ◌<◌}
use native.Mathlib.Omega.{arith}
use lib.ListN.{length}
use borrow.Author.Tests.{le-leb, lt-leb}
use Rattle.wire.specs.Number.{le_bytes}
use Rattle.wire.specs.Family.{header, tail, framed}
use Rattle.wire.specs.declared.Kind.{Kind}
use Rattle.std.specs.Prelude.{Ok, Err}
use Rattle.std.specs.declared.result.Result.{Result}
use Rattle.refusal.specs.declared.Error.{Error}
use Rattle.refusal.specs.declared.Error.TheVariants.{Unrepresentable, BufferTooSmall}
use Rattle.wire.proofs.Families.{header_length, tail_length}
use Rattle.wire.proofs.Framed.{framed_length}
use Rattle.writer.specs.Put.{put_in}
use Rattle.writer.specs.Written.{written, framable, frame_refusal}
use Rattle.writer.proofs.Chain.{put_nil, put_next, put_written}
use Rattle.writer.proofs.Writers.{Wrote, Shown, wrote_refused, wrote_short, wrote_whole, shown}

-- The four parts, put one after the other.
pub put_parts : (out : List ℕ) (k : Kind) (d b₁ b₂ b₃ b₄ : List ℕ) → 10 + length d ≤ length out
    → b₁ ≡ put_in out 0 (header k) → b₂ ≡ put_in b₁ 4 (le_bytes 2 (length d)) → b₃ ≡ put_in b₂ 6 d
    → b₄ ≡ put_in b₃ (6 + length d) (tail k) → b₄ ≡ written out (framed k d)
unfolding framed
put_parts out k d b₁ b₂ b₃ b₄ h e₁ e₂ e₃ e₄ =
    let n = header_length k in
    let m = tail_length k in
    let w₁ = put_next (put_nil out 0 (omega arith)) (header k) 4 e₁ (omega arith) (omega arith) in
    let w₂ = put_next w₁ (le_bytes 2 (length d)) 6 e₂ refl (omega arith) in
    let w₃ = put_next w₂ d (6 + length d) e₃ refl (omega arith) in
    let w₄ = put_next w₃ (tail k) (10 + length d) e₄ (omega arith) h in
    put_written w₄ ∙ ap (written out) (simp append_assoc)

-- What the contract of `put_frame` asks, in its three cases.
module _ (k : Kind) (d out : List ℕ) where
  frame_shown : (left : List ℕ) {r : Result ℕ Error} → Wrote (frame_refusal d) (framed k d) out r left
      → Shown Unrepresentable (framable d) (framed k d) out r left
  frame_shown = shown Unrepresentable (λ z. omega arith) (λ z. omega arith) (framable d) (framed k d) out

  pub frame_refused : 65535 < length d → Shown Unrepresentable (framable d) (framed k d) out (Err Unrepresentable) out
  frame_refused h = frame_shown out (rw (lt-leb (length d) 65535 h) (wrote_refused (framed k d) out Unrepresentable))

  module _ (fits : length d ≤ 65535) where
    pub frame_short : length out < 10 + length d
        → Shown Unrepresentable (framable d) (framed k d) out (Err (BufferTooSmall (10 + length d))) out
    frame_short h =
        let w = wrote_short (framed k d) out (10 + length d) (sym (framed_length k d)) h in
        frame_shown out (rw (le-leb (length d) 65535 fits) w)

    pub frame_whole : (left : List ℕ) → 10 + length d ≤ length out → left ≡ written out (framed k d)
        → Shown Unrepresentable (framable d) (framed k d) out (Ok (10 + length d)) left
    frame_whole left h e =
        let w = wrote_whole (framed k d) out (10 + length d) left (sym (framed_length k d)) h e in
        frame_shown left (rw (le-leb (length d) 65535 fits) w)
