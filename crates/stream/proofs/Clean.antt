-- Clean frames: the first byte begins a header, the second is above 2, and the others are quiet.
--   Quiet u   u is made of plain bytes and of pairs: any byte, and then one below 3
use mathlib.Core.Path.{◌≡◌, refl, ◌∙◌}
use mathlib.Core.List.{List, [], ◌∷◌, ◌++◌, append-nil}
use Prim.Native.Nat.{ℕ, zero, suc, ◌≤◌, ◌<◌}
use native.Mathlib.Omega.{arith}
use lib.ListN.{drop}
use Rattle.wire.specs.Bytes.{Every}
use Rattle.wire.specs.Family.{header, tail}
use Rattle.wire.specs.declared.Kind.{Kind}
use Rattle.wire.specs.declared.Kind.TheVariants.{Report, Command}
use Rattle.framing.proofs.Scanner.{step, rest}
use Rattle.stream.specs.Recovery.{Plain, Clean}
use Rattle.stream.proofs.Link.{link}
use Rattle.stream.proofs.Idle.{Idle, first, second, others, small_plain, second_plain, others_plain}
use Rattle.stream.proofs.Idle.{tail_plain, idle_plain, idle_pair}

pub data Quiet : List ℕ → Type 0 where
  quiet_end : Quiet []
  quiet_plain : {b : ℕ} {u : List ℕ} → Plain b → Quiet u → Quiet (b ∷ u)
  quiet_pair : {b c : ℕ} {u : List ℕ} → c < 3 → Quiet u → Quiet (b ∷ c ∷ u)

pub quiet_drop : (n : ℕ) {u : List ℕ} → Quiet u → Quiet (drop n u)
quiet_drop zero q = q
quiet_drop (suc n) quiet_end = quiet_end
quiet_drop (suc n) (quiet_plain h q) = quiet_drop n q
quiet_drop (suc zero) (quiet_pair {b} {c} h q) = quiet_plain (small_plain c h) q
quiet_drop (suc (suc n)) (quiet_pair h q) = quiet_drop n q

quiet_all : (d t : List ℕ) → Every Plain d → Quiet t → Quiet (d ++ t)
quiet_all [] t h q = q
quiet_all (b ∷ d) t h q = quiet_plain h.0 (quiet_all d t h.1 q)

-- A quiet string leaves an idle one idle.
pub quiet_idle : (limit : ℕ) {u : List ℕ} → Quiet u → (p : List ℕ) → Idle limit p → Idle limit (rest (link limit) p u)
quiet_idle limit quiet_end p i = i
quiet_idle limit (quiet_plain {b} h q) p i =
    quiet_idle limit q (step (link limit) p b).pending (idle_plain limit p b h i)
quiet_idle limit (quiet_pair {b} {c} h q) p i =
    quiet_idle limit q (rest (link limit) p (b ∷ c ∷ [])) (idle_pair limit p b c h i)

pub second_high : (k : Kind) → 2 < second k
second_high Report = omega arith
second_high Command = omega arith

header_split : (k : Kind) (r : List ℕ) → header k ++ r ≡ first k ∷ second k ∷ (others k ++ r)
header_split Report r = refl
header_split Command r = refl

module _ (limit : ℕ) (f : List ℕ) (x : Clean limit f) where
  abbrev pub kind : Kind
  kind = x.0.kind

  abbrev pub body : List ℕ
  body = others kind ++ (x.0.lo ∷ x.0.hi ∷ (x.0.held ++ tail kind))

  -- All but the first byte.
  abbrev pub after_first : List ℕ
  after_first = second kind ∷ body

  pub spelled : f ≡ first kind ∷ after_first
  spelled = x.0.spelled ∙ header_split kind (x.0.lo ∷ x.0.hi ∷ (x.0.held ++ tail kind))

  -- From 244 on the first length byte can itself be F4 or FD; the second is below 3.
  pub body_quiet : limit ≤ 512 → Quiet body
  body_quiet small =
      let high : x.0.hi < 3 = omega (arith, x.0.is_in_range.1) in
      let tail_quiet : Quiet (tail kind ++ []) = quiet_all (tail kind) [] (tail_plain kind) quiet_end in
      quiet_all (others kind) _ (others_plain kind)
      (quiet_pair high (quiet_all x.0.held (tail kind) x.1 (rw append-nil at tail_quiet)))

  pub after_first_quiet : limit ≤ 512 → Quiet after_first
  after_first_quiet small = quiet_plain (second_plain kind) (body_quiet small)
