-- `raise` meets its contract: before each turn the strip is raised to the best of the rules below the next one. Assumes nothing.
use Prim.Native.Nat.{◌-◌, ◌<◌}
use lib.ListN.{length}
use Rattle.std.specs.Prelude.{MatchOption}
use Rattle.cells.specs.Outline.{Begins}
use Rattle.cells.specs.Stretch.{reach_of, Sound}
use Rattle.cells.proofs.Rules.{rule_or, Ruled}
use Rattle.cells.proofs.stretch.Search.raise.Given as goal

abbrev pub invariant-loop-next : goal.invariant-loop-next
invariant-loop-next l = record {
  met : MatchOption l.next (Unit {0}) (λ j. (j < l.r.count) × Begins l.o l.r j);
  ruled : Sound l.self.shape l.self.work.now l.t (length l.initial.strip)
      → Ruled l.o l.r (reach_of l.self.shape l.self.work.now l.t) l.initial.strip l.strip l.from (length l.initial.strip) (rule_or l.o l.r l.next);
}

abbrev pub decreases-loop-next : goal.decreases-loop-next
decreases-loop-next l = l.r.count - rule_or l.o l.r l.next
