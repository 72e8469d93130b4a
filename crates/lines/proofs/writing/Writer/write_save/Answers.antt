-- `write_save` meets its contract: `clear`, the book, the loads and the budget. Assumes nothing.
use Rattle.tables.specs.Limits.{max_loads}
use Rattle.tables.proofs.Stored.{held-rules, held-loads}
use Rattle.lines.specs.Grammar.{line_of}
use Rattle.lines.proofs.Writes.{writes_then, room_first, room_then}
use Rattle.lines.proofs.Saves.{save-text}
use Rattle.lines.proofs.writing.Writer.write_save.Goals as goal

pub write_line-requires : goal.write_line-requires
unfolding line_of
write_line-requires c = room_first _ (rw save-text at c.requires.1)

pub write_book-requires : goal.write_book-requires
unfolding line_of
write_book-requires c = (held-rules max_loads c.args.tables c.requires.0, room_first _ (room_then c.write_line.ensures (rw save-text at c.requires.1)))

pub shared_ref_as_front-loads : goal.shared_ref_as_front-loads
shared_ref_as_front-loads c = held-loads max_loads c.args.tables c.requires.0

pub write_loads-requires : goal.write_loads-requires
unfolding line_of
write_loads-requires c = room_first _ (room_then c.write_book.ensures (room_then c.write_line.ensures (rw save-text at c.requires.1)))

pub write_line-requires-2 : goal.write_line-requires-2
unfolding line_of
write_line-requires-2 c =
    rw c.from.ensures (room_then c.write_loads.ensures (room_then c.write_book.ensures (room_then c.write_line.ensures (rw save-text at c.requires.1))))

pub returns : goal.returns
unfolding line_of
returns c =
    rw save-text
    (writes_then c.write_line.ensures (writes_then c.write_book.ensures (writes_then c.write_loads.ensures (rw c.from.ensures at c.write_line-2.ensures))))
