-- `Planner::fresh` meets its contract. Assumes nothing.
use Rattle.lists.specs.Arrays.{laid}
use Rattle.runs.specs.Runs.{mark_all, run_of}
use Rattle.tables.specs.Tables.{fresh}
use Rattle.planner.proofs.Planner.fresh.Goals as goal

pub returns : goal.returns
unfolding run_of laid mark_all fresh
returns c = rw c.fresh.ensures
