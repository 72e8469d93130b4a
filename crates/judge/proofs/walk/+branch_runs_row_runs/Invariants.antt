-- The measures of `branch_runs` and `row_runs`, which call each other. With a load fewer not yet reached the measure falls by two;
-- a row calls the branch of its first load at a measure of one less. Assumes nothing.
use Prim.Native.Nat.{◌+◌, ◌*◌}
use lib.ListN.{length}
use Rattle.judge.specs.Walk.{left}
use Rattle.judge.proofs.walk.+branch_runs_row_runs.Given as goal

abbrev pub decreases-branch_runs : goal.decreases-branch_runs
decreases-branch_runs l = 2 * left (length l.steps.now) l.k

abbrev pub decreases-row_runs : goal.decreases-row_runs
decreases-row_runs l = 2 * left (length l.steps.now) l.k + 1
