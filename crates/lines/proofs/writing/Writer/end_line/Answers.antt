-- `end_line` meets its contract: the numbers and the line feed. Assumes nothing.
use Rattle.lines.proofs.Writes.{writes_then, room_first, room_then}
use Rattle.lines.proofs.writing.Writer.end_line.Goals as goal

pub put_numbers-requires : goal.put_numbers-requires
put_numbers-requires c = room_first _ c.requires

pub put-requires : goal.put-requires
put-requires c = room_then c.put_numbers.ensures c.requires

pub returns : goal.returns
returns c = writes_then c.put_numbers.ensures c.put.ensures
