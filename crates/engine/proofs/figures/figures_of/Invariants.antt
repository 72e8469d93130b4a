-- `figures_of` meets its contract: what was added and what is still to come is the whole sum. Assumes nothing.
use Prim.Native.Nat.{◌*◌, ◌≤◌}
use lib.ListN.{length}
use Rattle.tables.specs.Limits.{max_loads}
use Rattle.marks.specs.Sets.{mark_in}
use Rattle.engine.specs.Figures.{power_in, worth_in}
use Rattle.engine.proofs.Sums.{Added}
use Rattle.engine.proofs.figures.figures_of.Given as goal

abbrev pub invariant-loop-i : goal.invariant-loop-i
invariant-loop-i l =
    (length l.used ≤ max_loads) × (l.power ≤ 65535 * l.i) × (l.worth ≤ 65535 * l.i)
    × Added (power_in (mark_in l.set)) l.used l.power l.i × Added (worth_in (mark_in l.set)) l.used l.worth l.i
