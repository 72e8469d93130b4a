-- `split` meets its contract: before each turn the strip is raised to the parts below the next step. Assumes nothing.
use Prim.Native.Nat.{◌-◌, ◌<◌}
use lib.ListN.{length}
use Rattle.std.specs.Prelude.{MatchOption}
use Rattle.cells.specs.Work.{cells_in}
use Rattle.cells.proofs.Shares.{step_or, Shared}
use Rattle.cells.proofs.strip.split.Given as goal

abbrev pub invariant-loop-step : goal.invariant-loop-step
invariant-loop-step l = record {
  within : MatchOption l.step (Unit {0}) (λ c. c < length l.x);
  shared : Shared (cells_in l.x) (cells_in l.y) l.initial.strip l.strip l.from (length l.x) (step_or l.step (length l.x));
}

abbrev pub decreases-loop-step : goal.decreases-loop-step
decreases-loop-step l = length l.x - step_or l.step (length l.x)
