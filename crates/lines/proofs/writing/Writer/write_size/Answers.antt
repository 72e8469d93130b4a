-- `write_size` meets its contract: a line if there are states, else none. Assumes nothing.
use Rattle.lines.specs.Grammar.{line_of}
use Rattle.lines.specs.declared.SaveForm.TheVariants.{Kinds}
use Rattle.lines.proofs.Saves.{size_none, size-some}
use Rattle.lines.proofs.Writes.{writes_none}
use Rattle.lines.proofs.writing.Writer.write_size.Goals as goal

pub write_line-requires : goal.write_line-requires
unfolding line_of
write_line-requires c = rw (c.from.ensures, c.from-then-states-ne0.ensures) (rw (size-some Kinds _ _ c.if-states-ne0.true) at c.requires)

pub returns-then-states-ne0 : goal.returns-then-states-ne0
unfolding line_of
returns-then-states-ne0 c = rw (size-some Kinds _ _ c.if-states-ne0.true) (rw (c.from.ensures, c.from-then-states-ne0.ensures) at c.write_line.ensures)

pub returns-else-states-ne0 : goal.returns-else-states-ne0
returns-else-states-ne0 c = rw (size_none Kinds _ c.args.stages c.if-states-ne0.false) (writes_none _)
