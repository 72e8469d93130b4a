-- `best_start` meets its contract: the best of the states up to s is kept. Assumes nothing.
use native.Mathlib.Omega.{arith}
use Rattle.engine.specs.Search.{greatest_of}
use Rattle.engine.proofs.Search.{greatest-none, greatest-turn}
use Rattle.engine.proofs.filled.Filled.best_start.Goals as goal

pub loop-s-init : goal.loop-s-init
loop-s-init c = (omega arith, greatest-none _)

pub loop-s-preserved : goal.loop-s-preserved
loop-s-preserved c =
    let l = c.loop-s in
    (omega arith, greatest-turn _ l.s _ (greatest_of l.best) _ l.invariant.1 c.start_at.ensures c.improved-best.ensures)
