-- `search` meets its contract: the cells are filled, the run is read back, and the cells are cleared. Assumes nothing.
use mathlib.Core.Path.{ap}
use Rattle.cells.specs.Work.{cells_needed}
use Rattle.engine.proofs.Planning.{all-cleared}
use Rattle.engine.proofs.plan.search.Goals as goal

pub returns : goal.returns
returns c =
    let g = c.fill_cells-sh.ensures in
    record {
      answer = c.read_back.ensures.read c.args.p g.filled;
      cleared = all-cleared c.args.work.now _ _ _ _ c.read_back.ensures.cleared (ap cells_needed g.shape) g.rest;
    }
