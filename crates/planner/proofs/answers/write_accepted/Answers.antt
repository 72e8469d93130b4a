-- `write_accepted` meets its contract: the lines of a run come behind the line of its answer. Assumes nothing.
use Rattle.lines.proofs.Writes.{writes_then, room_then}
use Rattle.tables.specs.Limits.{max_loads}
use Rattle.tables.proofs.Stored.{held-loads}
use Rattle.planner.proofs.answers.write_accepted.Goals as goal

pub write_run-requires : goal.write_run-requires
write_run-requires c = (held-loads max_loads c.args.tables c.requires.0, room_then c.write_plan.ensures (rw c.in-Planned.is at c.requires.1))

pub write_run-requires-in-Allowed : goal.write_run-requires-in-Allowed
write_run-requires-in-Allowed c = (held-loads max_loads c.args.tables c.requires.0, room_then c.write_yes.ensures (rw c.in-Allowed.is at c.requires.1))

pub returns-in-Planned : goal.returns-in-Planned
returns-in-Planned c = rw c.in-Planned.is (writes_then c.write_plan.ensures c.write_run.ensures)
