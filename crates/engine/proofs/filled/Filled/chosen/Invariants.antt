-- `chosen` meets its contract: the rules below the next one do not reach the goal. Assumes nothing.
use Prim.Native.Nat.{◌-◌, ◌<◌}
use Rattle.std.specs.Prelude.{MatchOption}
use Rattle.cells.specs.Outline.{Begins}
use Rattle.cells.proofs.Rules.{rule_or}
use Rattle.engine.proofs.Choosing.{Missed}
use Rattle.engine.proofs.filled.Filled.chosen.Given as goal

abbrev pub invariant-loop-next : goal.invariant-loop-next
invariant-loop-next l = record {
  met : MatchOption l.next (Unit {0}) (λ j. (j < l.r.count) × Begins l.self.outline.now l.r j);
  missed : Missed l.self.shape l.self.outline.now l.self.cells.now l.t l.r l.c l.goal (rule_or l.self.outline.now l.r l.next);
}

abbrev pub decreases-loop-next : goal.decreases-loop-next
decreases-loop-next l = l.r.count - rule_or l.self.outline.now l.r l.next
