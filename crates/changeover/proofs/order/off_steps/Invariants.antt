-- `off_steps` meets its contract: the steps that were put and those that are to come are all. Assumes nothing.
use Rattle.marks.specs.Sets.{has_load}
use Rattle.changeover.proofs.Orders.{OffSoFar}
use Rattle.changeover.proofs.order.off_steps.Given as goal

abbrev pub invariant-loop-i : goal.invariant-loop-i
invariant-loop-i l = OffSoFar (has_load l.old) (has_load l.new) l.loads l.i l.order
