-- `switch_over` meets its contract: the steps written so far, and behind them what stood there. Assumes nothing.
use Prim.Native.Nat.{◌-◌}
use mathlib.Core.Path.{◌≡◌}
use Rattle.planner.specs.Planner.{held}
use Rattle.changeover.proofs.Listed.{row}
use Rattle.changeover.proofs.writing.switch_over.Given as goal

abbrev pub invariant-loop-i : goal.invariant-loop-i
invariant-loop-i l = (l.i-end ≡ l.order.count) × (l.list ≡ row (held l.fn.planner) l.fn.old l.fn.new l.fn.list l.i)

abbrev pub decreases-loop-i : goal.decreases-loop-i
decreases-loop-i l = l.i-end - l.i
