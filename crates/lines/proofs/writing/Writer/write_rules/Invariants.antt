-- `write_rules` meets its contract. The invariant: the lines of the first rules are written. Assumes nothing.
use mathlib.Core.List.{map}
use lib.ListN.{take}
use Rattle.lines.specs.Saved.{rule_change, changes_text}
use Rattle.lines.specs.Writing.{Writes}
use Rattle.lines.proofs.writing.Writer.write_rules.Given as goal

abbrev pub invariant-loop-t : goal.invariant-loop-t
invariant-loop-t l = Writes l.initial.self l.self (changes_text l.form (map (rule_change l.sort) (take l.t-index l.rules)))
