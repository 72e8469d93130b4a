-- `passed` meets its contract: what is passed over grows by a stride. Assumes nothing.
use Prim.Native.Nat.{◌-◌}
use lib.ListN.{length}
use Rattle.cells.specs.Work.{cells_in}
use Rattle.cells.specs.Strip.{Passed}
use Rattle.cells.proofs.strip.passed.Given as goal

abbrev pub invariant-loop-c : goal.invariant-loop-c
invariant-loop-c l = Passed (cells_in l.cells) l.last l.from (length l.cells) l.c

abbrev pub decreases-loop-c : goal.decreases-loop-c
decreases-loop-c l = length l.cells - l.c
