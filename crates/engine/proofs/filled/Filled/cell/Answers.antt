-- `cell` meets its contract: the cell is within the work. Assumes nothing.
use native.Mathlib.Omega.{arith}
use Rattle.engine.proofs.Search.{cell-within}
use Rattle.engine.proofs.filled.Filled.cell.Goals as goal

pub overflow_add-at : goal.overflow_add-at
overflow_add-at c =
    let n = c.requires in
    omega (arith, cell-within _ _ c.args.self.now.ready c.args.k c.args.x c.args.c n.0 n.1 n.2 n.3 _ c.place-at.ensures)

pub offset_bounds-self-at : goal.offset_bounds-self-at
offset_bounds-self-at c =
    let n = c.requires in
    omega (arith, cell-within _ _ c.args.self.now.ready c.args.k c.args.x c.args.c n.0 n.1 n.2 n.3 _ c.place-at.ensures)

pub bounds-self-at : goal.bounds-self-at
bounds-self-at c =
    let n = c.requires in cell-within _ _ c.args.self.now.ready c.args.k c.args.x c.args.c n.0 n.1 n.2 n.3 _ c.place-at.ensures
