-- `put_outline` meets its contract. Assumes nothing.
use mathlib.Core.Path.{sym, ◌∙◌}
use native.Mathlib.Omega.{arith}
use lib.ListN.{length-set}
use Rattle.cells.proofs.Outlining.{zeros-long, outline-whole}
use Rattle.cells.proofs.outline.put_outline.Goals as goal

pub put_rules-requires : goal.put_rules-requires
put_rules-requires c =
    (c.requires.lawful.rules.few, c.requires.lawful.rules.full, omega (arith, zeros-long _ c.requires.o_value))

pub put_rules-requires-2 : goal.put_rules-requires-2
put_rules-requires-2 c =
    (c.requires.lawful.rows.few, c.requires.lawful.rows.full, omega (arith, zeros-long _ c.requires.o_value))

pub bounds-o-1030 : goal.bounds-o-1030
bounds-o-1030 c = omega (arith, zeros-long _ c.requires.o_value)

pub bounds-o : goal.bounds-o
bounds-o c = simp length-set (omega (arith, zeros-long _ c.requires.o_value))

pub returns : goal.returns
returns c =
    outline-whole c.args.p c.requires.lawful c.put_loads.ensures c.put_rules.ensures c.put_rules-2.ensures (omega (arith, zeros-long _ c.requires.o_value))

pub shape_of-o : goal.shape_of-o
shape_of-o c = (returns c).long ∙ sym (zeros-long _ c.requires.o_value)
