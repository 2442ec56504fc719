-- `load::seed_in` meets its contract. The loop's invariant: what is left of the text is read after the number so far.
-- Assumes nothing.
use Rattle.std.proofs.Common.{◌≡◌, drop}
use Rattle.load.specs.Seed.{seed_from, seed_of}
use Rattle.load.proofs.seed_in.Given as goal

abbrev pub invariant-loop-c : goal.invariant-loop-c
invariant-loop-c l = seed_of l.text ≡ seed_from l.seed (drop l.c-index l.text)
