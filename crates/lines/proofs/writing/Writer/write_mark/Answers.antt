-- `write_mark` meets its contract: a word for each sort. Assumes nothing.
use Rattle.lines.specs.Grammar.{line_of}
use Rattle.lines.proofs.writing.Writer.write_mark.Goals as goal

pub write_line-requires : goal.write_line-requires
unfolding line_of
write_line-requires c = rw c.from.ensures (rw c.in-Load.is at c.requires)

pub write_line-requires-in-Row : goal.write_line-requires-in-Row
unfolding line_of
write_line-requires-in-Row c = rw c.from-in-Row.ensures (rw c.in-Row.is at c.requires)

pub returns-in-Load : goal.returns-in-Load
unfolding line_of
returns-in-Load c = rw c.in-Load.is (rw c.from.ensures at c.write_line.ensures)

pub returns-in-Row : goal.returns-in-Row
unfolding line_of
returns-in-Row c = rw c.in-Row.is (rw c.from-in-Row.ensures at c.write_line-in-Row.ensures)
