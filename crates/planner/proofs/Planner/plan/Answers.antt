-- `Planner::plan` meets its contract. Assumes nothing.
use Prim.Native.Nat.{ℕ, ◌≤◌}
use mathlib.Core.List.{List, ◌++◌}
use mathlib.Core.Path.{◌≡◌, refl, sym, ◌∙◌}
use native.Mathlib.Omega.{arith}
use lib.ListN.{length, replicate, drop}
use lib.Dec.{lit<}
use Rattle.tables.specs.declared.refusal.Refusal.TheVariants.{NoLoads, TooFewCells}
use Rattle.lines.specs.declared.Command.TheVariants.{Plan}
use Rattle.tables.specs.Stored.{tables_of}
use Rattle.meaning.specs.Cells.{cells_of}
use Rattle.calls.specs.Rows.{Row, row, cells_for}
use Rattle.calls.specs.Printing.{zeroed}
use Rattle.calls.proofs.Answers.{positive}
use Rattle.planner.specs.declared.Planner.{Planner}
use Rattle.planner.specs.Planner.{state_in, Lawful}
use Rattle.planner.proofs.Commands.{load-count}
use Rattle.planner.proofs.Searching.{plan-no-loads, plan-too-few, kept, turns_down, storing-lawful, plans}
use Rattle.planner.proofs.Planner.plan.Goals as goal

-- the row of a plan, and the cells after it
abbrev plan_row : Planner → Row
plan_row p = row (state_in p) Plan

cleared : (p : Planner) (w v : List ℕ) → v ≡ replicate (cells_of (tables_of p.tables)) 0 ++ drop (cells_of (tables_of p.tables)) w → v ≡ zeroed (cells_for (plan_row p)) w
unfolding zeroed row
cleared p w v is = is

-- there are loads
some-loads : (p : Planner) → Lawful p → (p.tables.loads.count ≡ 0 → ⊥) → length (tables_of p.tables).loads ≡ 0 → ⊥
some-loads p h d z = d (load-count p h ∙ z)

pub returns-then-tables-eq0 : goal.returns-then-tables-eq0
returns-then-tables-eq0 c =
    let p = c.args.self in
    turns_down p c.requires (plan_row p) NoLoads c.args.work.now (lit< tt) refl c.refused.ensures
    (plan-no-loads (state_in p) (length c.args.work.now) (sym (load-count p c.requires) ∙ c.if-tables-eq0.true))

pub returns-then-work-cells_of : goal.returns-then-work-cells_of
returns-then-work-cells_of c =
    let p = c.args.self in
    turns_down p c.requires (plan_row p) TooFewCells c.args.work.now (lit< tt) refl c.refused-then-work-cells_of.ensures
    (plan-too-few (state_in p) (length c.args.work.now) (some-loads p c.requires c.if-tables-eq0.false) (omega (arith, c.if-work-cells_of.true, c.cells_of.ensures)))

pub plan-requires : goal.plan-requires
plan-requires c =
    record {
      t_value = kept c.args.self.tables c.requires.tables;
      count_nonzero = (positive c.if-tables-eq0.false, omega (arith, c.if-work-cells_of.false, c.cells_of.ensures));
    }

pub last-requires : goal.last-requires
last-requires c =
    storing-lawful c.args.self c.requires c.of-outcome.result (c.of-outcome.ensures ∙ c.plan.ensures.value)

pub returns : goal.returns
returns c =
    let p = c.args.self in
    let enough : cells_of (tables_of p.tables) ≤ length c.args.work.now = omega (arith, c.if-work-cells_of.false, c.cells_of.ensures) in
    plans p c.requires c.of-outcome.result (c.of-outcome.ensures ∙ c.plan.ensures.value) (some-loads p c.requires c.if-tables-eq0.false) c.args.work.now _ enough
    (cleared p c.args.work.now _ c.plan.ensures.work_after) c.last.ensures
