-- `steps` meets its contract: behind the steps of the loads that go off, those of the loads up to the one passed. Assumes nothing.
use Prim.Native.Nat.{◌-◌, ◌≤◌}
use mathlib.Core.Path.{◌≡◌}
use mathlib.Core.List.{◌++◌}
use Rattle.marks.specs.Sets.{has_load}
use Rattle.changeover.specs.Steps.{off_steps, on_steps}
use Rattle.changeover.specs.Order.{laid_order}
use Rattle.changeover.proofs.order.steps.Given as goal

abbrev pub invariant-loop-i : goal.invariant-loop-i
invariant-loop-i l = (l.i ≤ l.loads) × (l.order ≡ laid_order (off_steps (has_load l.old) (has_load l.new) l.loads ++ on_steps (has_load l.old) (has_load l.new) l.i))

abbrev pub decreases-loop-i : goal.decreases-loop-i
decreases-loop-i l = l.loads - l.i
