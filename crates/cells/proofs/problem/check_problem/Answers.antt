-- `check_problem` meets its contract. Assumes nothing.
use Prim.Native.Nat.{zero-le}
use mathlib.Core.Path.{refl}
use Rattle.std.specs.Prelude.{Some}
use native.Mathlib.Omega.{arith}
use Rattle.tables.specs.declared.rule.Sort.TheVariants as sort
use Rattle.cells.proofs.Lawful.{lawful}
use Rattle.cells.proofs.problem.check_problem.Goals as goal

pub returns : goal.returns
returns c = let s = c.args in (refl, lawful s.tables c.requires (record { rules = elim [ sort.Load ↦ omega arith | sort.Row ↦ omega arith ] }) (omega arith) 0 zero-le (Some s.set))
