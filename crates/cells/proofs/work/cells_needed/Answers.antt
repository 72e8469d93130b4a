-- `cells_needed` meets its contract. Assumes nothing.
use native.Mathlib.Omega.{arith}
use Rattle.cells.proofs.Places.{rank-small, cells-small}
use Rattle.cells.proofs.work.cells_needed.Goals as goal

pub overflow_mul-result : goal.overflow_mul-result
overflow_mul-result c = omega (arith, rank-small c.args.sh c.requires c.args.sh.loads (omega arith))

pub overflow_mul-result-2 : goal.overflow_mul-result-2
overflow_mul-result-2 c = omega (arith, cells-small c.args.sh c.requires 512 c.requires.budget)
