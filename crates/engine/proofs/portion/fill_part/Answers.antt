-- `fill_part` meets its contract: the cells of the plan's problem are those of the tables. Assumes nothing.
use native.Mathlib.Omega.{arith}
use Rattle.cells.proofs.InRange.{outline-fits}
use Rattle.engine.proofs.Portions.{part_filled, cells_are, ready-here}
use Rattle.engine.proofs.portion.fill_part.Goals as goal

pub fill-requires : goal.fill-requires
fill-requires c =
    let q = c.plan_problem-p.ensures in
    let d = c.outlined-sh.ensures in
    let r = ready-here c.args.t c.plan_problem-p.result q.1 q.0 _ _ c.args.work.now d c.requires.count_nonzero.0 c.requires.count_nonzero.1 in
    let n = cells_are c.args.t c.plan_problem-p.result q.1 q.0 _ _ c.args.work.now d c.requires.count_nonzero.0 c.requires.count_nonzero.1 in
    record { ready = (r, outline-fits c.plan_problem-p.result _ _ d); from_le_to = (omega arith, omega (arith, n)) }

pub returns : goal.returns
returns c =
    let q = c.plan_problem-p.ensures in
    part_filled c.args.t c.plan_problem-p.result q.1 q.0 c.args.work.now _ _ _ (c.fill.ensures c.plan_problem-p.result c.outlined-sh.ensures) c.fill.auto.work
