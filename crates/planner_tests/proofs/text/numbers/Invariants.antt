-- There is a place for each number that was found, and the measure is what is left of the text.
use Rattle.std.proofs.Common.{length, ◌≤◌}
use Rattle.planner_tests.proofs.text.numbers.Given as goal

abbrev pub invariant-loop-found : goal.invariant-loop-found
invariant-loop-found l = l.count ≤ length l.room
