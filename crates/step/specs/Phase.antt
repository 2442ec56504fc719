-- A slice's run in parts: what a function that takes some of the bytes promises to the loop over them.
--   after i r                     the run r, with i bytes taken before it
--   run_from limit c st buf bs i   the run of the bytes bs from byte i on
--   on_as e r rest                 r if it ended a frame, else `rest`
--   on_from limit r buf bs         the run that r begins: r itself if it ended a frame, else the run on from there
--   AtState limit s c bs i        the scan c is well-formed and in the state s, and bs has a byte i
--   PartialRun                    r took one or more bytes from byte i on, and begins the run from there
--   DataRun                       r took bytes from byte i on until the data or the bytes ended, and ended no frame;
--                                 the run goes on from there as from byte i
use Rattle.std.specs.Prelude.{◌≡◌, List, true, ℕ, ◌+◌, ◌≤◌, ◌<◌, length, drop, Some, None}
use Rattle.std.specs.declared.option.Option.{Option}
use Rattle.scan.specs.Scan.{well_formed}
use Rattle.step.specs.Slice.{Run, run_at, run_of}
use Rattle.scan.specs.declared.State.{State}
use Rattle.scan.specs.declared.State.TheVariants.{Data}
use Rattle.scan.specs.declared.Scan.{Scan}
use Rattle.scan.specs.declared.stats.Stats.{Stats}
use Rattle.scan.specs.declared.stats.Ended.{Ended}
use Rattle.scan.specs.declared.stats.Scanned.{Scanned}

abbrev pub after : ℕ → Run → Run
after i r = run_at r.scanned.scan r.scanned.stats r.scanned.ended (i + r.scanned.taken) r.buf

unfoldable pub run_from : ℕ → Scan → Stats → List ℕ → List ℕ → ℕ → Run
run_from limit c st buf bs i = after i (run_of limit c st buf (drop i bs))

abbrev pub on_as : Option Ended → Run → Run → Run
on_as (Some x) r rest = r
on_as None r rest = rest

unfoldable pub on_from : ℕ → Scanned → List ℕ → List ℕ → Run
on_from limit r buf bs = on_as r.ended (record { scanned = r; buf = buf })
    (run_from limit r.scan r.stats buf bs r.taken)

pub record AtState (limit : ℕ) (s : State) (c : Scan) (bs : List ℕ) (i : ℕ) : Type 0 where
  pub order : well_formed limit c ≡ true
  pub state : c.state ≡ s
  pub inside : i < length bs

pub record PartialRun (limit : ℕ) (c : Scan) (st : Stats) (buf bs : List ℕ) (i : ℕ) (r : Scanned) (left : List ℕ)
    : Type 0 where
  pub forth : i < r.taken
  pub inside : r.taken ≤ length bs
  pub order : well_formed limit r.scan ≡ true
  pub rest : on_from limit r left bs ≡ run_from limit c st buf bs i

pub record DataRun (limit : ℕ) (c : Scan) (st : Stats) (buf bs : List ℕ) (i : ℕ) (r : Scanned) (left : List ℕ)
    : Type 0 where
  pub forth : i ≤ r.taken
  pub inside : r.taken ≤ length bs
  pub order : well_formed limit r.scan ≡ true
  pub quiet : r.ended ≡ None
  pub past : r.taken < length bs → r.scan.state ≡ Data → ⊥
  pub rest : run_from limit r.scan r.stats left bs r.taken ≡ run_from limit c st buf bs i
