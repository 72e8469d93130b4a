-- `LoadList::remove` meets its contract. The loop's invariant: the places below i hold what they will, the others what they did. Assumes nothing.
use Prim.Native.Nat.{◌-◌, ◌≤◌}
use mathlib.Core.Path.{◌≡◌}
use Rattle.tables.specs.Limits.{max_loads}
use Rattle.tables.proofs.Removed.{came_to}
use Rattle.tables.proofs.load.LoadList.remove.Given as goal

abbrev pub invariant-loop-i : goal.invariant-loop-i
invariant-loop-i l =
    (l.number - 1 ≤ l.i) × (l.i ≤ max_loads) × (l.next.items ≡ came_to l.self l.number l.i)

abbrev pub decreases-loop-i : goal.decreases-loop-i
decreases-loop-i l = max_loads - l.i
