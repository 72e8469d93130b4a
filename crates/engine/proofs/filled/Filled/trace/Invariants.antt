-- `trace` meets its contract: the loads are passed one by one. Assumes nothing.
use Prim.Native.Nat.{◌≤◌, ◌<◌}
use Rattle.cells.specs.declared.problem.Problem.{Problem}
use Rattle.engine.specs.Pass.{Complete, Passed}
use Rattle.engine.proofs.filled.Filled.trace.Given as goal

abbrev pub invariant-loop-i : goal.invariant-loop-i
invariant-loop-i l = (0 < l.i) × (l.i ≤ l.self.shape.loads) × ((p : Problem) → Complete p l.self.shape l.self.outline.now l.self.cells.now → Passed p l.i l.s)
