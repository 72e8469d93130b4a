-- `write_entry` meets its contract: a number, and four with a comma before each. Assumes nothing.
use Rattle.lines.proofs.Answers.{entry_as_line}
use Rattle.lines.proofs.Writes.{writes_then, room_first, room_then}
use Rattle.lines.proofs.writing.Writer.write_entry.Goals as goal

pub put_decimal-requires : goal.put_decimal-requires
put_decimal-requires c = rw c.from.ensures (room_first _ (rw (← entry_as_line c.args.e) at c.requires))

pub end_line-requires : goal.end_line-requires
end_line-requires c =
    rw (c.from-2.ensures, c.from-3.ensures, c.from-4.ensures, c.from-5.ensures)
    (room_then (rw c.from.ensures at c.put_decimal.ensures) (rw (← entry_as_line c.args.e) at c.requires))

pub returns : goal.returns
returns c =
    rw (← entry_as_line c.args.e)
    (writes_then (rw c.from.ensures at c.put_decimal.ensures)
    (rw (c.from-2.ensures, c.from-3.ensures, c.from-4.ensures, c.from-5.ensures) at c.end_line.ensures))
