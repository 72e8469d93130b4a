-- `raise_to` meets its contract: before each turn the strip is raised below the allowance, and as it came from there on. Assumes nothing.
use native.Mathlib.Omega.{arith}
use Rattle.cells.proofs.Strips.{part_none, part-more, part-done}
use Rattle.cells.proofs.strip.raise_to.Goals as goal

pub loop-a-init : goal.loop-a-init
loop-a-init g c = λ f h. part_none _ _ _ _ (λ a l m. absurd (omega arith))

pub loop-a-preserved : goal.loop-a-preserved
loop-a-preserved g c = λ f h.
    let e = c.loop-a in
    let y = h e.a c.cell.result e.auto.a c.loop-a-test.true c.cell.ensures in
    part-more (e.invariant f h) _ c.cell.result e.auto.a (omega arith) c.raised.ensures y.0 (omega (arith, y.0, y.1))

pub returns : goal.returns
returns g c = λ f h. part-done (c.loop-a.invariant f h) _ (omega arith)
