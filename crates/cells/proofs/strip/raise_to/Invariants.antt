-- `raise_to` meets its contract: before each turn the strip is raised below the allowance, and as it came from there on. Assumes nothing.
use Prim.Native.Nat.{ℕ}
use lib.ListN.{length}
use Rattle.cells.specs.Strip.{Tells}
use Rattle.cells.proofs.Strips.{Part}
use Rattle.cells.proofs.strip.raise_to.Given as goal

abbrev pub invariant-loop-a : goal.invariant-loop-a
invariant-loop-a g l =
    (f : ℕ → ℕ) → Tells (goal.F-post g l.cell) f l.from (length l.initial.strip) → Part l.initial.strip l.strip l.from l.a f
