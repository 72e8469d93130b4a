-- `floor_of` meets its contract. Assumes nothing.
use native.Mathlib.Omega.{arith}
use Rattle.meaning.specs.Cell.{floor}
use Rattle.cells.proofs.cell.floor_of.Goals as goal

pub returns : goal.returns
unfolding floor
returns c = omega arith
