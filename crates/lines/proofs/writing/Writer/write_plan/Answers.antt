-- `write_plan` meets its contract: a word and three numbers. Assumes nothing.
use Rattle.lines.proofs.Answers.{plan_as_line}
use Rattle.lines.proofs.writing.Writer.write_plan.Goals as goal

pub write_line-requires : goal.write_line-requires
write_line-requires c = rw plan_as_line c.requires

pub returns : goal.returns
returns c = rw plan_as_line at c.write_line.ensures
