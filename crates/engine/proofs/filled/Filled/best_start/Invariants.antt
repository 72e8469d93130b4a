-- `best_start` meets its contract: the best of the states up to s is kept. Assumes nothing.
use Prim.Native.Nat.{suc, ◌≤◌}
use mathlib.Core.Path.{◌≡◌}
use Rattle.lists.specs.Argmax.{guard, argmax}
use Rattle.marks.specs.Bits.{has_mark}
use Rattle.cells.specs.Work.{held_branch}
use Rattle.engine.specs.Search.{greatest_of}
use Rattle.engine.proofs.filled.Filled.best_start.Given as goal

abbrev pub invariant-loop-s : goal.invariant-loop-s
invariant-loop-s l =
    (l.s ≤ l.self.shape.states) × (greatest_of l.best ≡ argmax (λ z. guard (has_mark l.self.shape.starts.0 (suc z)) (held_branch l.self.shape l.self.cells.now 1 (suc z) l.c)) l.s)
