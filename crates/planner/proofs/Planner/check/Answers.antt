-- `Planner::check` meets its contract. Assumes nothing.
use mathlib.Core.Path.{ap, ◌∙◌}
use Rattle.planner.specs.Decided.{decision}
use Rattle.planner.proofs.Planner.check.Goals as goal

pub returns-in-Ok : goal.returns-in-Ok
returns-in-Ok c = rw c.in-Ok.is at c.checked.ensures

pub returns-in-Err : goal.returns-in-Err
returns-in-Err c = ap decision c.refused.ensures ∙ (rw c.in-Err.is at c.checked.ensures)
