-- The answer to the envelope, if a check is the first to fail and if none fails (`fails_F1` to `passes`). And back:
-- a check in the answer is the first to fail (`failed_first`); a kind and a place mean that all hold (`Held`).
use mathlib.Core.Path.{◌≡◌, refl, ap}
use mathlib.Core.List.{List}
use mathlib.Core.Bool.{true, false}
use Prim.Native.Nat.{ℕ, ◌+◌, ◌-◌, ◌≤◌, ◌<◌}
use native.Mathlib.Omega.{arith}
use lib.ListN.{length, take, drop, length-take}
use lib.Dec.{leb}
use borrow.Author.Rules.{part_to_end}
use borrow.Author.Tests.{le-leb, lt-leb, leb-true}
use Rattle.std.specs.Prelude.{Some, None, Ok, Err}
use Rattle.std.specs.declared.option.Option.{Option}
use Rattle.refusal.specs.Check.{first_failed}
use Rattle.refusal.proofs.Checks.{passes_sound}
use Rattle.refusal.specs.declared.Check.{Check}
use Rattle.refusal.specs.declared.Check.TheVariants.{F1, F2, F3, F4}
use Rattle.wire.specs.Number.{number_at}
use Rattle.wire.proofs.Numbers.{read_some, read_none}
use Rattle.wire.specs.Equal.{same_bytes}
use Rattle.wire.proofs.Equality.{same_sound}
use Rattle.wire.specs.Family.{tail}
use Rattle.wire.proofs.Families.{header_sound, header_length}
use Rattle.wire.specs.declared.Kind.{Kind}
use Rattle.frame.specs.Envelope.{family, announced, data_of, frame_checks, opened_as, envelope}
use Rattle.frame.specs.declared.envelope.Envelope.{Envelope}

-- The envelope of a frame of the kind k whose data end at place i.
abbrev pub around : Kind → ℕ → Envelope
around k i = record { kind = k; end = i }

module _ (s : List ℕ) where
  -- Fewer bytes than a header announce no kind.
  none_of : (o : Option Kind) → family s ≡ o → length s < 4 → family s ≡ None
  none_of (Some k) e l =
      absurd (omega (arith, header_length k, ap length (header_sound (take 4 s) k e), length-take 4 s))
  none_of None e l = e

  pub short_family : length s < 4 → family s ≡ None
  short_family l = none_of (family s) refl l

  pub fails_F1 : family s ≡ None → envelope s ≡ Err F1
  unfolding envelope
  fails_F1 e = rw e

  module _ (k : Kind) (e : family s ≡ Some k) where
    pub fails_F2 : number_at 2 s 4 ≡ None → envelope s ≡ Err F2
    unfolding envelope
    fails_F2 l = rw (e, lt-leb 6 (length s) (read_none 2 s 4 l))

    -- The length bytes are there, and make the number n.
    module _ (n : ℕ) (l : number_at 2 s 4 ≡ Some n) where
      six : leb 6 (length s) ≡ true
      six = le-leb 6 (length s) (read_some 2 s 4 l).inside

      says : n ≡ announced s
      says = (read_some 2 s 4 l).value

      pub fails_F3 : length s < 6 + n → envelope s ≡ Err F3
      unfolding envelope
      fails_F3 h = rw (e, six, lt-leb (6 + announced s) (length s) (rw says at h))

      module _ (all : 6 + n ≤ length s) where
        inside : leb (6 + announced s) (length s) ≡ true
        inside = le-leb (6 + announced s) (length s) (rw says at all)

        -- The last bytes, as the code names them.
        abbrev rest : List ℕ
        rest = take (length s - (6 + n)) (drop (6 + n) s)

        pub fails_F4 : same_bytes rest (tail k) ≡ false → envelope s ≡ Err F4
        unfolding envelope
        fails_F4 t = rw (e, six, inside, rw (part_to_end, says) at t)

        pub passes : same_bytes rest (tail k) ≡ true → envelope s ≡ Ok (around k (6 + n))
        unfolding envelope
        passes t = rw (e, six, inside, rw (part_to_end, says) at t, says)

  pub failed_first : (c : Check) → envelope s ≡ Err c → first_failed frame_checks s ≡ Some c
  unfolding envelope
  failed_first c e = go (family s) refl (first_failed frame_checks s) refl e
    where
      go : (o : Option Kind) → family s ≡ o → (m : Option Check) → first_failed frame_checks s ≡ m
          → opened_as o m (6 + announced s) ≡ Err c → first_failed frame_checks s ≡ Some c
      go (Some k) f None h r = absurd (cc)
      go (Some k) f (Some d) h r = let q : d ≡ c = cc in rw (h, q)
      go None f m h r = let q : F1 ≡ c = cc in rw (f, q)

  pub record Held (k : Kind) (i : ℕ) : Type 0 where
    pub passed : first_failed frame_checks s ≡ None
    pub announces : family s ≡ Some k
    pub ends : i ≡ 6 + announced s
    pub inside : 6 + announced s ≤ length s
    pub tailed : drop (6 + announced s) s ≡ tail k

  -- What the envelope says of the code's part of the bytes.
  pub record Parted (v : Envelope) : Type 0 where
    pub start : 6 ≤ v.end
    pub finish : v.end ≤ length s
    pub part : take (v.end - 6) (drop 6 s) ≡ data_of s

  pub opened_data : (v : Envelope) → envelope s ≡ Ok v → Held v.kind v.end
  unfolding envelope
  opened_data v e = go (family s) refl (first_failed frame_checks s) refl e
    where
      go : (o : Option Kind) → family s ≡ o → (m : Option Check) → first_failed frame_checks s ≡ m
          → opened_as o m (6 + announced s) ≡ Ok v → Held v.kind v.end
      go (Some j) f None h r =
          let q : v ≡ around j (6 + announced s) = cc in
          let all = passes_sound s frame_checks h in
          rw q
          record {
            passed = h;
            announces = f;
            ends = refl;
            inside = leb-true (6 + announced s) (length s) all.1.1.0;
            tailed = same_sound _ _ (rw f at all.1.1.1.0);
          }
      go (Some j) f (Some d) h r = absurd (cc)
      go None f m h r = absurd (cc)

  pub opened_part : (v : Envelope) → envelope s ≡ Ok v → Parted v
  opened_part v e =
      let h = opened_data v e in
      let n : v.end - 6 ≡ announced s = omega (arith, h.ends) in
      record {
        start = omega (arith, h.ends);
        finish = omega (arith, h.ends, h.inside);
        part = rw n;
      }
