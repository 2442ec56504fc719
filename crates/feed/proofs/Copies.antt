-- The data part: bytes copied into the buffer.
use mathlib.Core.Path.{◌≡◌, refl, sym, ap, ◌∙◌}
use mathlib.Core.List.{List}
use mathlib.Core.Bool.{true}
use Prim.Native.Nat.{ℕ, zero, suc, ◌+◌, ◌-◌, ◌≤◌, ◌<◌, min}
use native.Mathlib.Omega.{arith}
use lib.ListN.{length, get_or, set, drop, length-drop}
use lib.Seq.{paste, paste-zero, paste-suc, get_or-drop}
use Rattle.std.specs.Prelude.{None}
use Rattle.wire.specs.declared.Kind.{Kind}
use Rattle.scan.specs.Scan.{at, well_formed}
use Rattle.scan.specs.Start.{continued}
use Rattle.step.specs.Step.{step_data, step_of, stored}
use Rattle.scan.specs.Scan.{data_at}
use Rattle.step.specs.Phase.{run_from, on_from, AtState, PartialRun, DataRun}
use Rattle.scan.specs.declared.State.TheVariants.{Data, Tail}
use Rattle.scan.specs.declared.Scan.{Scan}
use Rattle.scan.specs.declared.stats.Stats.{Stats}
use Rattle.scan.specs.declared.stats.Scanned.{Scanned}
use Rattle.scan.proofs.Orders.{data_range, data_inside, data_most, data_at_formed}
use Rattle.step.proofs.Runs.{run_next, run_on}
use Rattle.scan.proofs.DataAt.{data_some, data_whole}
use Rattle.step.proofs.Turns.{data_step, step_as, stored_as}

-- bs has n bytes from byte i on, at least one, and no more than the data bytes that are due.
pub record Due (limit : ℕ) (c : Scan) (bs : List ℕ) (i n : ℕ) : Type 0 where
  pub some : 0 < n
  pub there : i + n ≤ length bs
  pub due : c.pos + n ≤ c.len
  pub few : c.len ≤ limit

pub min_due : (limit : ℕ) (c : Scan) (bs : List ℕ) (i n : ℕ) → AtState limit Data c bs i
    → n ≡ min (c.len - c.pos) (length bs - i) → Due limit c bs i n
min_due limit c bs i n h e =
    let l : c.pos < c.len = data_inside limit c h.order h.state in
    record {
      some = omega (arith, h.inside);
      there = omega (arith, h.inside);
      due = omega arith;
      few = data_most limit c h.order h.state;
    }

-- One more byte of bs is stored after the first j from i on.
pub pasted_next : (buf bs d : List ℕ) (p i j : ℕ) → d ≡ paste buf p (drop i bs) j → p + j < length buf
    → i + j < length bs → set d (p + j) (get_or bs (i + j) 0) ≡ paste buf p (drop i bs) (suc j)
pasted_next buf bs d p i j e room there =
    rw (e, ← get_or-drop i bs j 0) (paste-suc buf p (drop i bs) j 0 room (omega (arith, length-drop i bs)))

-- The run from byte i, with p of n data bytes taken, is the run from byte i + j, with j more copied into the buffer.
abbrev pub Copied : ℕ → Kind → ℕ → ℕ → Stats → List ℕ → List ℕ → ℕ → ℕ → Type 0
Copied limit k n p st buf bs i j = run_from limit (data_at k n (p + j)) st (paste buf p (drop i bs) j) bs (i + j)
    ≡ run_from limit (at Data k 0 n p) st buf bs i

module _ (limit : ℕ) (k : Kind) (n p : ℕ) (st : Stats) (buf bs : List ℕ) (i : ℕ) where
  copied_none : p < n → Copied limit k n p st buf bs i 0
  copied_none l = rw (← paste-zero buf p (drop i bs))
      (ap (λ q. run_from limit (data_at k n q) st buf bs (i + 0)) (omega arith)
      ∙ ap (λ q. run_from limit (data_at k n p) st buf bs q) (omega arith)
      ∙ ap (λ q. run_from limit q st buf bs i) (data_some k n p l))

  copied_more : (j : ℕ) → p + j < n → n ≤ length buf → i + j < length bs → Copied limit k n p st buf bs i j
      → Copied limit k n p st buf bs i (suc j)
  unfolding step_of stored
  copied_more j l room inner h =
      let d = paste buf p (drop i bs) j in
      let b = get_or bs (i + j) 0 in
      rw (← pasted_next buf bs d p i j refl (omega arith) inner)
      (ap (λ q. run_from limit (data_at k n q) st (set d (p + j) b) bs (i + suc j)) (omega arith)
      ∙ ap (λ q. run_from limit (data_at k n (p + j + 1)) st (set d (p + j) b) bs q) (omega arith)
      ∙ run_on limit (at Data k 0 n (p + j)) st d bs (i + j) (continued (data_at k n (p + j + 1)) st) (set d (p + j) b)
      inner (sym (data_step st k n (p + j))) refl refl
      ∙ ap (λ q. run_from limit q st d bs (i + j)) (sym (data_some k n (p + j) l)) ∙ h)

  copied_all : (j : ℕ) → p < n → p + j ≤ n → n ≤ length buf → i + j ≤ length bs → Copied limit k n p st buf bs i j
  copied_all zero some due room there = copied_none some
  copied_all (suc j) some due room there =
      copied_more j (omega arith) room (omega arith) (copied_all j some (omega arith) room (omega arith))

-- Among the data bytes, the field `matched` has no effect.
data_forgets : (limit : ℕ) (c : Scan) (st : Stats) (buf bs : List ℕ) (i : ℕ) → c.state ≡ Data → i < length bs
    → run_from limit (at Data c.kind 0 c.len c.pos) st buf bs i ≡ run_from limit c st buf bs i
unfolding step_of stored
data_forgets limit c st buf bs i e l =
    let r = step_data c.kind c.len c.pos st in
    let d = set buf c.pos (get_or bs i 0) in
    sym (run_next limit (at Data c.kind 0 c.len c.pos) st buf bs i r d l refl refl)
    ∙ run_next limit c st buf bs i r d l (step_as c Data e (get_or bs i 0) limit st)
    (stored_as c Data e (get_or bs i 0) buf)

tail_no_data : Tail ≡ Data → ⊥
tail_no_data e = let z : ◌≡◌ {A = ℕ} 0 1 = cc in omega arith

-- All data bytes that are due, or left in bs if fewer, n of them, are copied to d.
pub record AllCopied (limit : ℕ) (c : Scan) (buf bs : List ℕ) (i : ℕ) (d : List ℕ) (n : ℕ) : Type 0 where
  pub start : AtState limit Data c bs i
  pub room : limit ≤ length buf
  pub fewest : n ≡ min (c.len - c.pos) (length bs - i)
  pub copied : d ≡ paste buf c.pos (drop i bs) n

module _ {limit : ℕ} {c : Scan} {buf bs : List ℕ} {i : ℕ} {d : List ℕ} {n : ℕ} (x : AllCopied limit c buf bs i d n)
    (st : Stats) where
  all : Due limit c bs i n
  all = min_due limit c bs i n x.start x.fewest

  copied_same : run_from limit (data_at c.kind c.len (c.pos + n)) st d bs (i + n) ≡ run_from limit c st buf bs i
  copied_same =
      let h : Due limit c bs i n = all in
      rw x.copied (copied_all limit c.kind c.len c.pos st buf bs i n (omega arith) h.due (omega (arith, x.room)) h.there
      ∙ data_forgets limit c st buf bs i x.start.state x.start.inside)

  copied_order : well_formed limit (data_at c.kind c.len (c.pos + n)) ≡ true
  copied_order =
      data_at_formed limit c.kind c.len (c.pos + n) (data_range limit c x.start.order x.start.state)

  copied_run : (c' : Scan) → c' ≡ data_at c.kind c.len (c.pos + n)
      → (i + n < length bs → c'.state ≡ Data → ⊥)
      → DataRun limit c st buf bs i (record { scan = c'; stats = st; ended = None; taken = i + n }) d
  copied_run c' e p = record {
    forth = omega arith;
    inside = all.there;
    order = rw e copied_order;
    quiet = refl;
    past = p;
    rest = rw e copied_same;
  }

  -- Either no byte is left.
  pub copied_last : i + n ≡ length bs → DataRun limit c st buf bs i
      (record { scan = data_at c.kind c.len (c.pos + n); stats = st; ended = None; taken = i + n }) d
  copied_last e = copied_run _ refl (λ l. absurd (omega arith))

  -- Or all data bytes are copied, and the tail follows.
  pub copied_whole : (i + n ≡ length bs → ⊥) → DataRun limit c st buf bs i
      (record { scan = at Tail c.kind 0 c.len c.len; stats = st; ended = None; taken = i + n }) d
  copied_whole more = copied_run _
      (sym (data_whole c.kind c.len (c.pos + n) (omega (arith, all.there, x.fewest)))) (λ l. tail_no_data)

-- Outside the data nothing is copied.
pub copied_nothing : (limit : ℕ) (c : Scan) (st : Stats) (buf bs : List ℕ) (i : ℕ) → well_formed limit c ≡ true
    → i < length bs → (c.state ≡ Data → ⊥)
    → DataRun limit c st buf bs i (record { scan = c; stats = st; ended = None; taken = i }) buf
copied_nothing limit c st buf bs i o l n = record {
  forth = omega arith;
  inside = omega arith;
  order = o;
  quiet = refl;
  past = λ h. n;
  rest = refl;
}

-- After the data bytes, no byte is left, or a part follows in which nothing is stored.
module _ {limit : ℕ} {c : Scan} {st : Stats} {buf bs : List ℕ} {i : ℕ} {r : Scanned} {d : List ℕ}
    (x : DataRun limit c st buf bs i r d) where
  pub data_last : i < length bs → r.taken ≡ length bs → PartialRun limit c st buf bs i r d
  unfolding on_from
  data_last l e = record { forth = omega arith; inside = x.inside; order = x.order; rest = rw x.quiet x.rest }

  pub data_then : {q : Scanned} → PartialRun limit r.scan r.stats d bs r.taken q d
      → PartialRun limit c st buf bs i q d
  data_then h = record {
    forth = omega (arith, h.forth, x.forth);
    inside = h.inside;
    order = h.order;
    rest = h.rest ∙ x.rest;
  }

  module _ (more : r.taken ≡ length bs → ⊥) where
    left : r.taken < length bs
    left = omega (arith, x.inside)

    pub data_here : AtState limit r.scan.state r.scan bs r.taken
    data_here = record { order = x.order; state = refl; inside = left }

    pub data_past : r.scan.state ≡ Data → ⊥
    data_past = x.past left
