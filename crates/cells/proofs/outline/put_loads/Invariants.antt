-- `put_loads` meets its contract: before each turn the loads after load i are written. Assumes nothing.
use Rattle.cells.specs.Outline.{LoadsPut}
use Rattle.cells.proofs.outline.put_loads.Given as goal

abbrev pub invariant-loop-i : goal.invariant-loop-i
invariant-loop-i l = LoadsPut l.p l.initial.o l.i l.o
