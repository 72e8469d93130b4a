-- `write_rule` meets its contract: a word for each sort, and the kind of a load rule where the form has it. Assumes nothing.
use Rattle.lines.specs.Grammar.{line_of}
use Rattle.lines.proofs.Saves.{kind_taken}
use Rattle.lines.proofs.writing.Writer.write_rule.Goals as goal

pub write_line-requires : goal.write_line-requires
unfolding line_of
write_line-requires c =
    rw (kind_taken c.args.form _ _ _ _ c.number_count.ensures, c.from.ensures, c.from-2.ensures, c.from-3.ensures, c.from-4.ensures)
    (rw c.in-Load.is at c.requires)

pub write_line-requires-in-Row : goal.write_line-requires-in-Row
unfolding line_of
write_line-requires-in-Row c = rw (c.from.ensures, c.from-2.ensures, c.from-3.ensures) (rw c.in-Row.is at c.requires)

pub returns-in-Load : goal.returns-in-Load
unfolding line_of
returns-in-Load c =
    rw c.in-Load.is
    (rw (kind_taken c.args.form _ _ _ _ c.number_count.ensures, c.from.ensures, c.from-2.ensures, c.from-3.ensures, c.from-4.ensures) at c.write_line.ensures)

pub returns-in-Row : goal.returns-in-Row
unfolding line_of
returns-in-Row c = rw c.in-Row.is (rw (c.from.ensures, c.from-2.ensures, c.from-3.ensures) at c.write_line-in-Row.ensures)
