-- A frame that begins one byte too soon is lost: its first byte becomes the last data byte of what was pending.
use mathlib.Core.Path.{◌≡◌, refl, sym, ◌∙◌, ap, subst}
use mathlib.Core.Logic.{◌≢◌, ⊎_elim}
use mathlib.Core.List.{List, [], ◌∷◌, ◌++◌, append-nil, append_assoc, cons≢nil}
use Prim.Native.Nat.{ℕ, zero, suc, ◌+◌, ◌-◌, ◌/◌, ◌%◌, ◌≤◌, ◌<◌}
use native.Mathlib.Omega.{arith}
use lib.ListN.{length, replicate, length-append, length-replicate}
use Rattle.wire.specs.Bytes.{Every}
use Rattle.wire.specs.Number.{little, le_bytes}
use Rattle.wire.specs.Family.{header, framed}
use Rattle.wire.specs.declared.Kind.{Kind}
use Rattle.wire.specs.declared.Kind.TheVariants.{Report, Command}
use Rattle.wire.proofs.Framed.{framed_length}
use Rattle.framing.specs.Piece.{Piece, broken, whole, bytes, spelled}
use Rattle.framing.specs.Division.{EndsAt}
use Rattle.framing.proofs.Framing.{Waits, Divides}
use Rattle.framing.proofs.View.{nothing_waits}
use Rattle.framing.proofs.Scanned.{from, strays_first, breaks_first, division_unique, scanner_sound}
use Rattle.engine.specs.Fulfilled.{answers}
use Rattle.stream.specs.Length.{InRange}
use Rattle.stream.specs.Open.{in_data}
use Rattle.stream.specs.Deliver.{Answer, decodes, delivered}
use Rattle.stream.specs.Recovery.{Plain, Clean, Lost}
use Rattle.stream.proofs.Steps.{data_not_whole}
use Rattle.stream.proofs.Link.{link, not_whole}
use Rattle.stream.proofs.Traps.{broken_tail}
use Rattle.stream.proofs.Idle.{first, second, first_waits, plain_or_first, plain_strays, small_plain}
use Rattle.stream.proofs.Idle.{second_apart}
use Rattle.stream.proofs.Clean.{Quiet, quiet_end, quiet_plain, quiet_pair, kind, body, after_first_quiet}
use Rattle.stream.proofs.Clean as Clean
use Rattle.stream.proofs.Regained.{sendable_clean}

-- If the first piece is a broken start, no frame that begins within it is found.
first_piece : (s f : List ℕ) (ps qs : List Piece) (n : ℕ) → ps ≡ broken s ∷ qs → 0 < n → n < length s
    → ¬ EndsAt ps (n + length f) f
first_piece s f ps qs n e h l x = go x.before x.after (sym e ∙ x.split) x.place
  where
    go : (before after : List Piece) → broken s ∷ qs ≡ before ++ (whole f ∷ after)
        → length (spelled before ++ f) ≡ n + length f → ⊥
    go [] after q z = omega arith
    go (b ∷ before) after q z =
        let y : broken s ≡ b = cc in
        omega (
          arith,
          ap (λ (p : Piece). length (bytes p)) y,
          length-append (bytes b ++ spelled before) f,
          length-append (bytes b) (spelled before),
        )

abbrev answered : List Piece → List Answer
answered ps = answers decodes delivered ps

module _ (limit : ℕ) where
  plain_silent : (b : ℕ) (u : List ℕ) → Plain b → answered (from (link limit) [] (b ∷ u))
      ≡ answered (from (link limit) [] u)
  plain_silent b u h = ap answered (strays_first (link limit) b u (plain_strays limit b h))

  pair_silent : (b c : ℕ) (u : List ℕ) → c < 3 → answered (from (link limit) [] (b ∷ c ∷ u))
      ≡ answered (from (link limit) [] u)
  pair_silent b c u h = ⊎_elim
      (λ n. plain_silent b (c ∷ u) n ∙ plain_silent c u (small_plain c h))
      (λ x. rw x.1 (ap answered (breaks_first (link limit) (first x.0 ∷ []) c u cons≢nil
      (first_waits limit x.0) (second_apart limit x.0 c h)) ∙ plain_silent c u (small_plain c h)))
      (plain_or_first b)

  -- A quiet string delivers nothing.
  silent : {u : List ℕ} → Quiet u → answered (from (link limit) [] u) ≡ []
  silent quiet_end = refl
  silent (quiet_plain {b} {u} h q) = plain_silent b u h ∙ silent q
  silent (quiet_pair {b} {c} {u} h q) = pair_silent b c u h ∙ silent q

zeros_plain : (n : ℕ) → Every Plain (replicate n 0)
zeros_plain zero = tt
zeros_plain (suc n) = (small_plain 0 (omega arith), zeros_plain n)

no_tail : (k : Kind) → second k ≢ 0xF8
no_tail Report e = absurd (omega arith)
no_tail Command e = absurd (omega arith)

module _ (limit : ℕ) (large : 13 ≤ limit) (small : limit ≤ 512) where
  abbrev lo : ℕ
  lo = limit % 256

  abbrev hi : ℕ
  hi = limit / 256 % 256

  abbrev zeros : List ℕ
  zeros = replicate (limit - 11) 0

  abbrev short : List ℕ
  short = framed Report zeros

  -- `begun` is what is pending; `input g` is that, the short frame, and g.
  abbrev begun : List ℕ
  begun = header Report ++ (lo ∷ hi ∷ [])

  abbrev input : List ℕ → List ℕ
  input g = begun ++ ((short ++ []) ++ g)

  is_limit : little (lo ∷ hi ∷ []) ≡ limit
  is_limit = omega arith

  is_in_range : InRange limit (little (lo ∷ hi ∷ []))
  is_in_range = (omega (arith, is_limit), omega (arith, is_limit))

  may_wait : Waits (link limit) begun
  may_wait = (
    in_data Report lo hi [] is_in_range (omega arith) refl,
    not_whole limit _ (data_not_whole limit Report lo hi [] (omega arith)),
  )

  short_clean : Clean limit short
  short_clean =
      let z : length zeros ≡ limit - 11 = length-replicate {A = ℕ} (limit - 11) 0 in
      sendable_clean limit small (Report, zeros) ((omega arith, omega arith), zeros_plain (limit - 11))

  short_length : suc (length (short ++ [])) ≡ limit
  short_length =
      omega (arith, ap length (append-nil short), framed_length Report zeros, length-replicate {A = ℕ} (limit - 11) 0)

  -- All bytes before the second of the next frame f are one broken start.
  module _ (f : List ℕ) (x : Clean limit f) (v : List ℕ) where
    abbrev k : Kind
    k = kind limit f x

    abbrev held : List ℕ
    held = short ++ (first k ∷ [])

    abbrev start : List ℕ
    start = header Report ++ (lo ∷ hi ∷ (held ++ []))

    abbrev more : List ℕ
    more = second k ∷ (body limit f x ++ v)

    string : input (f ++ v) ≡ start ++ more
    string = ap (λ (g : List ℕ). input (g ++ v)) (Clean.spelled limit f x) ∙ simp (append_assoc, append-nil)

    all_there : length held ≡ little (lo ∷ hi ∷ [])
    all_there = omega (arith, is_limit, short_length, length-append short (first k ∷ []), ap length (append-nil short))

    divided : Divides (link limit) (input (f ++ v)) (broken start ∷ from (link limit) [] more)
    divided = subst (λ (s : List ℕ). Divides (link limit) s (broken start ∷ from (link limit) [] more)) (sym string)
        (broken_tail limit Report lo hi held 0 (second k) (body limit f x ++ v) (from (link limit) [] more)
        is_in_range all_there (omega arith) (no_tail k)
        (scanner_sound (link limit) [] more (nothing_waits (link limit))))

    unfound : (ps : List Piece) → Divides (link limit) (input (f ++ v)) ps → ¬ EndsAt ps (length (input f)) f
    unfound ps d y =
        let n = 6 + length (short ++ []) in
        let z : length (input f) ≡ n + length f = omega (arith, length-append (short ++ []) f) in
        first_piece start f ps (from (link limit) [] more) n (division_unique (link limit) d divided) (omega arith)
        (omega (arith, ap length (append-nil held), ap length (append-nil short), length-append short (first k ∷ [])))
        (subst (λ (m : ℕ). EndsAt ps m f) z y)

  undelivered : (f : List ℕ) (x : Clean limit f) (ps : List Piece) → Divides (link limit) (input f) ps
      → answered ps ≡ []
  undelivered f x ps d =
      let e : f ++ [] ≡ f = append-nil f in
      ap answered (division_unique (link limit) (rw (← e) at d) (divided f x []))
      ∙ ap (λ (u : List ℕ). answered (from (link limit) [] (second (kind limit f x) ∷ u)))
      (append-nil (body limit f x)) ∙ silent limit (after_first_quiet limit f x small)

pub not_sooner : (limit : ℕ) → 13 ≤ limit → limit ≤ 512
    → Lost limit (header Report ++ le_bytes 2 limit) (framed Report (replicate (limit - 11) 0) ∷ [])
not_sooner limit large small = record {
  may_wait = may_wait limit large small;
  clean = (short_clean limit large small, tt);
  one_less = omega (arith, short_length limit large small);
  unfound = λ f x v ps d. unfound limit large small f x v ps d;
  undelivered = λ f x ps d. undelivered limit large small f x ps d;
}
