-- `Planner::budget` meets its contract. Assumes nothing.
use mathlib.Core.Path.{ap, ◌∙◌}
use mathlib.Core.List.{[]}
use native.Mathlib.Omega.{arith}
use borrow.Author.Tests.{le-leb, lt-leb}
use Rattle.tables.specs.declared.tables.StoredTables.{StoredTables}
use Rattle.tables.specs.Limits.{max_budget, budget_in}
use Rattle.tables.specs.Stored.{tables_of}
use Rattle.tables.specs.Operations.{budget_changed}
use Rattle.tables.proofs.Changes.{budget-changed}
use Rattle.calls.specs.Rows.{changing}
use Rattle.calls.proofs.State.{is-stored}
use Rattle.planner.specs.Planner.{state_in}
use Rattle.planner.proofs.Commands.{out_of_range, accepts}
use Rattle.planner.proofs.Planner.budget.Goals as goal

pub returns-then-from-watts : goal.returns-then-from-watts
unfolding changing
returns-then-from-watts c =
    let w = c.args.watts in
    out_of_range (state_in c.args.self) (budget_in w) [] _ (lt-leb w max_budget (omega (arith, c.from.ensures, c.if-from-watts.true)))

pub returns : goal.returns
unfolding changing
returns c =
    let s = c.args.self.tables in
    let w = c.args.watts in
    accepts (state_in c.args.self) (budget_in w) _ (le-leb w max_budget (omega (arith, c.from.ensures, c.if-from-watts.false)))
    (c.set_budget.ensures ∙ ap (λ (x : StoredTables). budget_changed x w) (is-stored s c.requires.tables) ∙ budget-changed (tables_of s) w)
