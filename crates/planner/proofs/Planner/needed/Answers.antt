-- `Planner::needed` meets its contract. Assumes nothing.
use Prim.Native.Nat.{ℕ, ◌*◌, ◌≤◌, ◌<◌}
use mathlib.Core.List.{List, ◌++◌}
use mathlib.Core.Path.{◌≡◌, refl, sym, ◌∙◌}
use mathlib.Core.Bool.{true, false}
use native.Mathlib.Omega.{arith}
use borrow.Author.Tests.{lt-leb, le-leb}
use lib.ListN.{length, replicate, drop}
use lib.Dec.{lit<}
use Rattle.tables.specs.declared.refusal.Refusal.TheVariants.{NoLoads, OutOfRange, TooFewCells}
use Rattle.tables.specs.Limits.{need_in, max_loads, max_worth}
use Rattle.lines.specs.declared.Command.TheVariants as line
use Rattle.tables.specs.Stored.{tables_of}
use Rattle.meaning.specs.Cells.{cells_of}
use Rattle.calls.specs.Rows.{Row, row, cells_for}
use Rattle.calls.specs.Printing.{zeroed}
use Rattle.calls.proofs.State.{places}
use Rattle.calls.proofs.Answers.{positive}
use Rattle.planner.specs.declared.Planner.{Planner}
use Rattle.planner.specs.Planner.{state_in, Lawful}
use Rattle.planner.proofs.Commands.{load-count}
use Rattle.planner.proofs.Searching.{kept, turns_down}
use Rattle.planner.proofs.Budgets.{need-no-loads, need-out-of-range, need-too-few, needs-done}
use Rattle.planner.proofs.Planner.needed.Goals as goal

abbrev need_row : Planner → ℕ → Row
need_row p v = row (state_in p) (line.Need v)

-- the cells after it
cleared : (p : Planner) (v : ℕ) (w u : List ℕ) → u ≡ replicate (cells_of (tables_of p.tables)) 0 ++ drop (cells_of (tables_of p.tables)) w → u ≡ zeroed (cells_for (need_row p v)) w
unfolding zeroed row
cleared p v w u is = is

-- a planner has places for as many loads as the code's limit says
in-range : (p : Planner) → Lawful p → (v : ℕ) → v ≤ max_loads * max_worth → need_in (state_in p).tables.places v ≡ true
in-range p h v l = rw (places p.tables h.tables) (le-leb v (max_loads * max_worth) l)

out_of_range : (p : Planner) → Lawful p → (v : ℕ) → max_loads * max_worth < v → need_in (state_in p).tables.places v ≡ false
out_of_range p h v l = rw (places p.tables h.tables) (lt-leb v (max_loads * max_worth) l)

-- there are loads
some-loads : (p : Planner) → Lawful p → (p.tables.loads.count ≡ 0 → ⊥) → length (tables_of p.tables).loads ≡ 0 → ⊥
some-loads p h d z = d (load-count p h ∙ z)

pub returns-then-tables-eq0 : goal.returns-then-tables-eq0
returns-then-tables-eq0 c =
    let p = c.args.self in
    turns_down p c.requires (need_row p c.args.worth) NoLoads c.args.work.now (lit< tt) refl refl
    (need-no-loads (state_in p) c.args.worth (length c.args.work.now) (sym (load-count p c.requires) ∙ c.if-tables-eq0.true))

pub returns-then-worth-gt-MAX_NEED : goal.returns-then-worth-gt-MAX_NEED
returns-then-worth-gt-MAX_NEED c =
    let p = c.args.self in
    turns_down p c.requires (need_row p c.args.worth) OutOfRange c.args.work.now (lit< tt) refl refl
    (need-out-of-range (state_in p) c.args.worth (length c.args.work.now) (some-loads p c.requires c.if-tables-eq0.false) (out_of_range p c.requires c.args.worth c.if-worth-gt-MAX_NEED.true))

pub returns-then-work-cells_of : goal.returns-then-work-cells_of
returns-then-work-cells_of c =
    let p = c.args.self in
    turns_down p c.requires (need_row p c.args.worth) TooFewCells c.args.work.now (lit< tt) refl refl
    (need-too-few (state_in p) c.args.worth (length c.args.work.now) (some-loads p c.requires c.if-tables-eq0.false) (in-range p c.requires c.args.worth c.if-worth-gt-MAX_NEED.false) (omega (arith, c.if-work-cells_of.true, c.cells_of.ensures)))

pub least_budget-requires : goal.least_budget-requires
least_budget-requires c =
    record {
      t_value = (kept c.args.self.tables c.requires.tables, c.if-worth-gt-MAX_NEED.false);
      count_nonzero = (positive c.if-tables-eq0.false, omega (arith, c.if-work-cells_of.false, c.cells_of.ensures));
    }

pub returns : goal.returns
returns c =
    let p = c.args.self in
    let v = c.args.worth in
    let enough : cells_of (tables_of p.tables) ≤ length c.args.work.now = omega (arith, c.if-work-cells_of.false, c.cells_of.ensures) in
    needs-done p c.requires v c.args.work.now _ (some-loads p c.requires c.if-tables-eq0.false) (in-range p c.requires v c.if-worth-gt-MAX_NEED.false) enough
    (cleared p v c.args.work.now _ c.least_budget.ensures.work_after)
    c.least_budget.result c.least_budget.ensures.value
