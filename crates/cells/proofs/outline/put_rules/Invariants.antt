-- `put_rules` meets its contract: before each turn the rules below are written. Assumes nothing.
use Rattle.cells.specs.Outline.{RulesPut}
use Rattle.cells.proofs.outline.put_rules.Given as goal

abbrev pub invariant-loop-j : goal.invariant-loop-j
invariant-loop-j l = RulesPut l.fn.rules l.initial.o l.at l.j l.o
