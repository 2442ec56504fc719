-- The frame of three targets, put part by part.
use mathlib.Core.Path.{◌≡◌, refl, sym, ap, ◌∙◌}
use mathlib.Core.List.{List, [], ◌∷◌, ◌++◌, append_assoc, append-nil}
use Prim.Native.Nat.{ℕ, ◌≤◌}
use native.Mathlib.Omega.{arith}
use lib.ListN.{length, get_or}
use Rattle.writer.specs.Put.{put_in}
use Rattle.writer.specs.Written.{written}
use Rattle.writer.proofs.Chain.{put_nil, put_next, put_written}
use Rattle.ld2450.specs.Target.{absent}
use Rattle.ld2450.specs.Frame.{header, tail, framed}
use Rattle.ld2450.specs.Bytes.{target_bytes, targets_bytes, targets_frame}
use Rattle.ld2450.specs.declared.targets.Target.{Target}
use Rattle.ld2450.proofs.Frames.{framed_length}
use Rattle.ld2450.proofs.TargetRound.{target_eight}
use Rattle.ld2450.proofs.FrameRound.{targets_length}

-- A list of three is its three elements.
trio : (ts : List Target) → length ts ≡ 3 → ts ≡ get_or ts 0 absent ∷ get_or ts 1 absent ∷ get_or ts 2 absent ∷ []
trio [] n = absurd (omega arith)
trio (a ∷ []) n = absurd (omega arith)
trio (a ∷ b ∷ []) n = absurd (omega arith)
trio (a ∷ b ∷ c ∷ []) n = refl
trio (a ∷ b ∷ c ∷ d ∷ ts) n = absurd (omega arith)

pub frame_size : (ts : List Target) → length ts ≡ 3 → length (targets_frame ts) ≡ 30
frame_size ts n = framed_length (targets_bytes ts) (omega (arith, targets_length ts))

-- Header, three targets, tail, each put where the one before ended.
put_parts : (out a b c b₁ b₂ b₃ b₄ b₅ : List ℕ) → 30 ≤ length out → length a ≡ 8 → length b ≡ 8 → length c ≡ 8
    → b₁ ≡ put_in out 0 header → b₂ ≡ put_in b₁ 4 a → b₃ ≡ put_in b₂ 12 b → b₄ ≡ put_in b₃ 20 c → b₅ ≡ put_in b₄ 28 tail
    → b₅ ≡ written out (framed (a ++ (b ++ (c ++ []))))
put_parts out a b c b₁ b₂ b₃ b₄ b₅ h la lb lc e₁ e₂ e₃ e₄ e₅ =
    let w₁ = put_next (put_nil out 0 (omega arith)) header 4 e₁ refl (omega arith) in
    let w₂ = put_next w₁ a 12 e₂ (omega arith) (omega arith) in
    let w₃ = put_next w₂ b 20 e₃ (omega arith) (omega arith) in
    let w₄ = put_next w₃ c 28 e₄ (omega arith) (omega arith) in
    let w₅ = put_next w₄ tail 30 e₅ refl (omega arith) in
    put_written w₅ ∙ ap (written out) (simp (append_assoc, append-nil))

laid_size : (t : Target) {s : List ℕ} → s ≡ target_bytes t → length s ≡ 8
laid_size t e = ap length e ∙ (target_eight t).size

pub frame_put : (ts : List Target) → length ts ≡ 3 → (out : List ℕ) {a b c b₁ b₂ b₃ b₄ b₅ : List ℕ} → 30 ≤ length out
    → a ≡ target_bytes (get_or ts 0 absent) → b ≡ target_bytes (get_or ts 1 absent)
    → c ≡ target_bytes (get_or ts 2 absent)
    → b₁ ≡ put_in out 0 header → b₂ ≡ put_in b₁ 4 a → b₃ ≡ put_in b₂ 12 b → b₄ ≡ put_in b₃ 20 c → b₅ ≡ put_in b₄ 28 tail
    → b₅ ≡ written out (targets_frame ts)
frame_put ts n out h ha hb hc e₁ e₂ e₃ e₄ e₅ =
    put_parts out _ _ _ _ _ _ _ _ h (laid_size _ ha) (laid_size _ hb) (laid_size _ hc) e₁ e₂ e₃ e₄ e₅
    ∙ rw (ha, hb, hc) (ap (λ l. written out (targets_frame l)) (sym (trio ts n)))
