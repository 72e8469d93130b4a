-- `cell_of` meets its contract. Assumes nothing.
use native.Mathlib.Omega.{arith}
use Rattle.cells.proofs.Numbers.{cell-is}
use Rattle.cells.proofs.cell.cell_of.Goals as goal

pub returns : goal.returns
returns c = (cell-is _ _ _ (omega arith), omega arith)
