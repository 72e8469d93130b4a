-- `write_line` meets its contract: the word, the numbers and the line feed. Assumes nothing.
use mathlib.Core.List.{append_assoc}
use Rattle.lines.proofs.Writes.{writes_then, room_first, room_then}
use Rattle.lines.proofs.Saves.{line_word}
use Rattle.lines.proofs.writing.Writer.write_line.Goals as goal

pub put_text-requires : goal.put_text-requires
put_text-requires c = room_first _ (rw (line_word, append_assoc) at c.requires)

pub end_line-requires : goal.end_line-requires
end_line-requires c = room_then c.put_text.ensures (rw (line_word, append_assoc) at c.requires)

pub returns : goal.returns
returns c = rw (line_word, append_assoc) (writes_then c.put_text.ensures c.end_line.ensures)
