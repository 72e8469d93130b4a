-- `Planner::set_figure` meets its contract. Assumes nothing.
use mathlib.Core.Path.{◌≡◌, refl}
use mathlib.Core.Bool.{true, false, ◌&&◌}
use native.Mathlib.Omega.{arith}
use Rattle.std.proofs.lemmas.Grind.{common_steps}
use Rattle.tables.specs.Limits.{figure_in}
use Rattle.planner.proofs.Commands.{figure-refused, figure-set}
use Rattle.planner.proofs.Planner.set_figure.Goals as goal

pub returns-then-not-value-from : goal.returns-then-not-value-from
returns-then-not-value-from c =
    let a = c.args in
    let e : c.between-there.result && figure_in a.figure a.value ≡ false = grind (arith, common_steps) in
    figure-refused a.self c.requires a.figure a.number a.value c.between-there.ensures refl e

pub returns : goal.returns
returns c =
    let a = c.args in
    let e : c.between-there.result && figure_in a.figure a.value ≡ true = grind (arith, common_steps) in
    figure-set a.self c.requires a.figure a.number a.value c.between-there.ensures refl e c.set_figure.ensures
