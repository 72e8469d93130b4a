-- `search_alone` meets its contract: the cells are filled, and the run is read back. The case in which it would call itself does not arise.
-- Assumes nothing.
use mathlib.Core.Path.{ap, sym, subst}
use native.Mathlib.Omega.{arith}
use Rattle.cells.specs.Problem.{Sane}
use Rattle.cells.specs.Work.{cells_needed}
use Rattle.engine.proofs.Planning.{filled-readable, readable-fits, readable-some}
use Rattle.engine.proofs.plan.+search_alone.Goals as goal

-- its cells are counted
pub cells_needed-requires : goal.cells_needed-requires
cells_needed-requires t c = subst Sane (sym c.shape_of.ensures) c.requires.lawful.0.sane

-- more than there are: that is not so
pub search_alone-requires : goal.search_alone-requires
search_alone-requires t c = absurd (omega (arith, ap cells_needed c.shape_of.ensures))

pub returns-then-cells_needed-gt-CHECK_CELLS : goal.returns-then-cells_needed-gt-CHECK_CELLS
returns-then-cells_needed-gt-CHECK_CELLS t c = absurd (omega (arith, ap cells_needed c.shape_of.ensures))

-- the run is read
pub invariant_of-filled : goal.invariant_of-filled
invariant_of-filled t c =
    let k = filled-readable _ _ _ c.args.p c.fill_cells-sh.ensures.filled in
    record { ready = k.ready; fits = readable-fits _ _ _ k; some = readable-some _ _ _ k }

pub returns : goal.returns
returns t c = c.trace.ensures c.args.p c.fill_cells-sh.ensures.filled
