-- `write_marks` meets its contract. The invariant: the lines of the marks up to number i are written. Assumes nothing.
use Rattle.lines.specs.declared.SaveForm.TheVariants.{Kinds}
use Rattle.lines.specs.Saved.{mark_changes, changes_text}
use Rattle.lines.specs.Writing.{Writes}
use Rattle.lines.proofs.writing.Writer.write_marks.Given as goal

abbrev pub invariant-loop-i : goal.invariant-loop-i
invariant-loop-i l = Writes l.initial.self l.self (changes_text Kinds (mark_changes l.sort l.marks l.i))
