-- `write_book` meets its contract: its size, the marks of both sorts, the rules of both sorts. Assumes nothing.
use Rattle.tables.specs.declared.rule.Sort.TheVariants as sort
use Rattle.lines.proofs.Writes.{writes_then, room_first, room_then}
use Rattle.lines.proofs.Saves.{book-text}
use Rattle.lines.proofs.writing.Writer.write_book.Goals as goal

pub write_size-requires : goal.write_size-requires
write_size-requires c = room_first _ (rw book-text at c.requires.1)

pub write_marks-requires : goal.write_marks-requires
write_marks-requires c = room_first _ (room_then c.write_size.ensures (rw book-text at c.requires.1))

pub write_marks-requires-2 : goal.write_marks-requires-2
write_marks-requires-2 c = room_first _ (room_then c.write_marks.ensures (room_then c.write_size.ensures (rw book-text at c.requires.1)))

pub shared_ref_as_front-rules : goal.shared_ref_as_front-rules
shared_ref_as_front-rules c = c.requires.0 sort.Load

pub shared_ref_as_front-rows : goal.shared_ref_as_front-rows
shared_ref_as_front-rows c = c.requires.0 sort.Row

pub write_rules-requires : goal.write_rules-requires
write_rules-requires c =
    room_first _ (room_then c.write_marks-2.ensures (room_then c.write_marks.ensures (room_then c.write_size.ensures (rw book-text at c.requires.1))))

pub write_rules-requires-2 : goal.write_rules-requires-2
write_rules-requires-2 c =
    room_then c.write_rules.ensures
    (room_then c.write_marks-2.ensures (room_then c.write_marks.ensures (room_then c.write_size.ensures (rw book-text at c.requires.1))))

pub returns : goal.returns
returns c =
    rw book-text
    (writes_then c.write_size.ensures (writes_then c.write_marks.ensures (writes_then c.write_marks-2.ensures (writes_then c.write_rules.ensures c.write_rules-2.ensures))))
