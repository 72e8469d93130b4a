-- `branch_runs` and `row_runs`, which call each other, meet their contracts. Assumes nothing.
use Prim.Native.Nat.{ℕ}
use mathlib.Core.Path.{ap, sym, ◌∙◌}
use native.Mathlib.Omega.{arith}
use Rattle.judge.specs.Walk.{row_runs}
use Rattle.judge.proofs.Steps.{end-of-row, parents, branch-fails, branch-passes, row-fails, row-branch-fails, row-passes}
use Rattle.judge.proofs.walk.+branch_runs_row_runs.Goals as goal

-- no stage: the load rule does not fit
pub branch_runs-returns-then-g-eq0 : goal.branch_runs-returns-then-g-eq0
branch_runs-returns-then-g-eq0 m c t ρ l = branch-fails l c.args.k c.requires.0 c.requires.1 c.if-g-eq0.true

-- the row: fewer loads are left
pub branch_runs-row_runs-requires : goal.branch_runs-row_runs-requires
branch_runs-row_runs-requires m c =
    (omega (arith, c.first_child.ensures.falls), (c.first_child.ensures.falls.0, c.requires.2))

-- the branch is as its row
pub branch_runs-returns : goal.branch_runs-returns
branch_runs-returns m c t ρ l =
    c.row_runs.ensures t ρ l (omega (arith, c.if-g-eq0.false))
    ∙ branch-passes l c.args.k c.requires.0 c.requires.1 c.if-g-eq0.false (c.first_child.ensures.found t.loads (parents l))

-- the last stage reached is an end stage, or not
pub row_runs-returns-then-k-eq0 : goal.row_runs-returns-then-k-eq0
row_runs-returns-then-k-eq0 m c t ρ l some =
    let a = c.args in
    (rw c.from.ensures at c.has.ensures) ∙ end-of-row l a.g ∙ ap (λ (k : ℕ). row_runs t ρ k a.g) (sym c.if-k-eq0.true)

-- another stage: the row rule does not fit
pub row_runs-returns-then-step-g : goal.row_runs-returns-then-step-g
row_runs-returns-then-step-g m c t ρ l some =
    row-fails l c.args.k (omega (arith, c.if-k-eq0.false)) c.requires.0 c.if-step-g.true

-- the rest of the row: fewer loads are left
pub row_runs-row_runs-requires : goal.row_runs-row_runs-requires
row_runs-row_runs-requires m c =
    (omega (arith, c.next_sibling.ensures.falls), (c.next_sibling.ensures.falls.0, c.requires.1))

-- the branch is run: the row is as its rest
pub row_runs-returns-then-branch_runs : goal.row_runs-returns-then-branch_runs
row_runs-returns-then-branch_runs m c t ρ l some =
    let p = row-passes l c.args.k (omega (arith, c.if-k-eq0.false)) c.requires.0
    c.if-step-g.false some (c.branch_runs.ensures t ρ l) c.if-branch_runs.true (c.next_sibling.ensures.found t.loads (parents l)) in
    c.row_runs.ensures t ρ l p.1 ∙ p.0

-- the branch is not run
pub row_runs-returns : goal.row_runs-returns
row_runs-returns m c t ρ l some =
    row-branch-fails l c.args.k (omega (arith, c.if-k-eq0.false)) c.requires.0
    c.if-step-g.false some (c.branch_runs.ensures t ρ l) c.if-branch_runs.false
