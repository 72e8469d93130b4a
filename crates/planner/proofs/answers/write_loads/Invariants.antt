-- The invariant of `write_loads`: the lines of the first i loads are written. Assumes nothing.
use Rattle.lines.specs.Answers.{entry_lines}
use Rattle.lines.specs.Writing.{Writes}
use Rattle.runs.specs.Runs.{entries_to}
use Rattle.planner.proofs.answers.write_loads.Given as goal

abbrev pub invariant-loop-i : goal.invariant-loop-i
invariant-loop-i l = Writes l.initial.w l.w (entry_lines (entries_to l.run l.i))
