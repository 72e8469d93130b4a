-- `write_loads` meets its contract. The invariant: the lines of the first loads are written. Assumes nothing.
use mathlib.Core.List.{map}
use lib.ListN.{take}
use Rattle.lines.specs.Saved.{load_change, changes_text}
use Rattle.lines.specs.Writing.{Writes}
use Rattle.lines.proofs.writing.Writer.write_loads.Given as goal

abbrev pub invariant-loop-l : goal.invariant-loop-l
invariant-loop-l l = Writes l.initial.self l.self (changes_text l.form (map load_change (take l.l-index l.loads)))
