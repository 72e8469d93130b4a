-- `child_after` meets its contract: no load that was passed has the parent p. Assumes nothing.
use Prim.Native.Nat.{◌-◌, ◌≤◌}
use mathlib.Core.Path.{◌≡◌}
use mathlib.Core.List.{List}
use lib.ListN.{length}
use Rattle.tables.specs.declared.load.Load.{Load}
use Rattle.meaning.specs.Forest.{after}
use Rattle.judge.specs.Figures.{ParentsOf}
use Rattle.judge.proofs.walk.child_after.Given as goal

abbrev pub invariant-loop-i : goal.invariant-loop-i
invariant-loop-i l =
    (l.k ≤ l.i) × (l.i ≤ length l.steps) × ((ls : List Load) → ParentsOf ls l.steps → after ls l.k l.p ≡ after ls l.i l.p)

abbrev pub decreases-loop-i : goal.decreases-loop-i
decreases-loop-i l = length l.steps - l.i
