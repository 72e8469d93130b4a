-- `put_numbers` meets its contract. The invariant: the first numbers are written. Assumes nothing.
use lib.ListN.{take}
use mathlib.Core.List.{[]}
use Rattle.lines.specs.Written.{line}
use Rattle.lines.specs.Writing.{Writes}
use Rattle.lines.proofs.writing.Writer.put_numbers.Given as goal

abbrev pub invariant-loop-n : goal.invariant-loop-n
invariant-loop-n l = Writes l.initial.self l.self (line [] (take l.n-index l.numbers))
