-- `plan_problem` meets its contract. Assumes nothing.
use mathlib.Core.Path.{refl}
use Rattle.std.specs.Prelude.{None}
use native.Mathlib.Nat.{le_refl}
use native.Mathlib.Omega.{arith}
use Rattle.tables.specs.declared.rule.Sort.TheVariants as sort
use Rattle.cells.proofs.Lawful.{lawful}
use Rattle.cells.proofs.problem.plan_problem.Goals as goal

pub returns : goal.returns
returns c = let s = c.args in (refl, lawful s.tables c.requires (record { rules = elim [ sort.Load ↦ omega arith | sort.Row ↦ omega arith ] }) (omega arith) s.tables.budget (le_refl _) None)
