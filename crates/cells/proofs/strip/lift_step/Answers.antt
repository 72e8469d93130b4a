-- `lift_step` meets its contract: a cell that is no worse than the empty set's adds as much to each cell that is not 0. Assumes nothing.
use native.Mathlib.Omega.{arith}
use Rattle.cells.proofs.Strips.{raised-more}
use Rattle.cells.proofs.strip.lift_step.Goals as goal

pub returns-else-v-lt-EMPTY : goal.returns-else-v-lt-EMPTY
returns-else-v-lt-EMPTY c =
    let s = c.args in
    λ k. raised-more k s.c s.v s.from _ (omega arith) c.max.ensures c.rise.ensures
