-- `write_load` meets its contract: its word and its numbers, with its kind where the form has it. Assumes nothing.
use Rattle.lines.specs.Grammar.{line_of}
use Rattle.lines.proofs.Saves.{kind_taken}
use Rattle.lines.proofs.writing.Writer.write_load.Goals as goal

pub write_line-requires : goal.write_line-requires
unfolding line_of
write_line-requires c =
    rw (kind_taken c.args.form _ _ _ _ c.number_count.ensures, c.from.ensures, c.from-2.ensures, c.from-3.ensures, c.from-4.ensures) c.requires

pub returns : goal.returns
unfolding line_of
returns c =
    rw (kind_taken c.args.form _ _ _ _ c.number_count.ensures, c.from.ensures, c.from-2.ensures, c.from-3.ensures, c.from-4.ensures) at c.write_line.ensures
