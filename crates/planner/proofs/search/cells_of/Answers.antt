-- `cells_of` meets its contract: in range the product fits. Assumes nothing.
use native.Mathlib.Omega.{arith}
use Rattle.planner.proofs.Searching.{cells_are, rows_few, cells-few}
use Rattle.planner.proofs.search.cells_of.Goals as goal

pub overflow_mul-result : goal.overflow_mul-result
overflow_mul-result c = rw (c.from.ensures, c.from-2.ensures) (omega (arith, rows_few c.args.tables c.requires))

pub overflow_mul-result-2 : goal.overflow_mul-result-2
overflow_mul-result-2 c =
    rw (c.from.ensures, c.from-2.ensures, c.from-3.ensures) (omega (arith, cells_are c.args.tables c.requires, cells-few c.args.tables c.requires))

pub returns : goal.returns
returns c = rw (c.from.ensures, c.from-2.ensures, c.from-3.ensures) (cells_are c.args.tables c.requires)
