-- The cases of the input, as they lie in a buffer. Quotations are from docs/REPLAY.md.
--   case_size s          the length of a case that s begins with: "A case is `op` (1 byte), `n` (4 bytes,
--                       little-endian), then n argument bytes."
--   found_in s           what the rest of the input is, if it is s: a case at its front; or one that is too long, "an
--                       `n` above 70,000"; or it "ends inside a case", or "between two cases"
--   decided f           whether it stays so, whatever follows s
--   is_case f            whether it is a case
--   sized f s           the length of the case at the front of s, 0 if none was found
--   unread b i n        the bytes of the buffer b from place i to place n
--   nothing_read         what comes before the first case
--   next_at b i n        the next case, if the bytes of b from place i to place n are read and not used
--   read_of b x         after the case x, how many bytes of the buffer b are read
--   used_of b x         after the case x, how many of these are used
--   unused b x          the bytes that are read and not used
--   NextCase b x b' r   after the case x of the buffer b, r is the next, and it lies in the buffer b'
--   Grown b k b' n      the buffer b' begins with the first k bytes of b, and n of its bytes are read
use Rattle.std.specs.Prelude.{◌≡◌, List, ◌++◌, Bool, true, false, cond, ℕ, ◌+◌, ◌-◌, ◌≤◌, min, eqb, leb, ltb, length, take, drop}
use Rattle.replay_io.specs.Argument.{field_at}
use Rattle.replay_io.specs.declared.input.Found.{Found}
use Rattle.replay_io.specs.declared.input.Found.TheVariants.{Case, Long, Short, End}
use Rattle.replay_io.specs.declared.input.Next.{Next}

abbrev pub case_size : List ℕ → ℕ
case_size s = 5 + field_at 4 s 1

unfoldable pub found_in : List ℕ → Found
found_in s =
    cond (ltb 70000 (field_at 4 s 1)) Long
    (cond (leb (case_size s) (length s)) Case
    (cond (eqb (length s) 0) End Short))

abbrev pub decided : Found → Bool
decided Case = true
decided Long = true
decided Short = false
decided End = false

abbrev pub is_case : Found → Bool
is_case Case = true
is_case Long = false
is_case Short = false
is_case End = false

unfoldable pub sized : Found → List ℕ → ℕ
sized Case s = case_size s
sized Long s = 0
sized Short s = 0
sized End s = 0

abbrev pub unread : List ℕ → ℕ → ℕ → List ℕ
unread b i n = take (n - i) (drop i b)

abbrev pub nothing_read : Next
nothing_read = record { start = 0; end = 0; read = 0; found = End }

unfoldable pub next_at : List ℕ → ℕ → ℕ → Next
next_at b i n =
    let s = unread b i n in
    record { start = i; end = i + sized (found_in s) s; read = n; found = found_in s }

abbrev pub read_of : List ℕ → Next → ℕ
read_of b x = min x.read (length b)

abbrev pub used_of : List ℕ → Next → ℕ
used_of b x = min x.end (read_of b x)

abbrev pub unused : List ℕ → Next → List ℕ
unused b x = unread b (used_of b x) (read_of b x)

pub record NextCase (b : List ℕ) (x : Next) (b' : List ℕ) (r : Next) : Type 0 where
  -- it lies within the bytes that are read, and they within the buffer
  pub ordered : r.start ≤ r.end
  pub inside : r.end ≤ r.read
  pub within : r.read ≤ length b'
  -- it has at most 70,005 bytes
  pub small : r.end ≤ r.start + 70005
  -- it is the case at the front of the bytes that are not used
  pub told : r ≡ next_at b' r.start r.read
  -- these are the bytes left after the case x, and more that were read
  pub more : List ℕ
  pub kept : unread b' r.start r.read ≡ unused b x ++ more
  -- if the bytes left decide what is next, no more are read, and the buffer stays as it is
  pub still : decided (found_in (unused b x)) ≡ true → (b' ≡ b) × (r ≡ next_at b (used_of b x) (read_of b x))
  -- else they are moved to the front of the buffer
  pub front : decided (found_in (unused b x)) ≡ false → r.start ≡ 0

pub record Grown (b : List ℕ) (k : ℕ) (b' : List ℕ) (n : ℕ) : Type 0 where
  pub ordered : k ≤ n
  pub within : n ≤ length b'
  pub kept : take k b' ≡ take k b
