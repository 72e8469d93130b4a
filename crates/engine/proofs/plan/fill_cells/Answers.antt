-- `fill_cells` meets its contract: the outline is written, and the cells are filled by it. Assumes nothing.
use mathlib.Core.Path.{sym, subst}
use native.Mathlib.Omega.{arith}
use Rattle.cells.specs.Problem.{Sane}
use Rattle.cells.proofs.InRange.{outline-fits}
use Rattle.engine.proofs.Planning.{ready, complete, rest-kept}
use Rattle.engine.proofs.plan.fill_cells.Goals as goal

pub cells_needed-n-requires : goal.cells_needed-n-requires
cells_needed-n-requires c = let d = c.outlined-sh.ensures in subst Sane (sym d.shape) d.lawful.sane

pub fill-requires : goal.fill-requires
fill-requires c =
    let s = c.args in
    let d = c.outlined-sh.ensures in
    record {
      ready = (ready s.p _ _ d s.work.now c.requires.count_nonzero.1, outline-fits s.p _ _ d);
      from_le_to = (omega arith, omega (arith, c.cells_needed-n.ensures));
    }

pub returns : goal.returns
returns c =
    let s = c.args in
    let d = c.outlined-sh.ensures in
    let room = c.requires.count_nonzero in
    record {
      shape = d.shape;
      filled = complete s.p _ _ d s.work.now room.1 _ _ c.cells_needed-n.ensures c.fill.ensures c.fill.auto.work room.0;
      rest = rest-kept s.p _ _ d s.work.now room.1 _ _ c.cells_needed-n.ensures c.fill.ensures c.fill.auto.work;
    }
