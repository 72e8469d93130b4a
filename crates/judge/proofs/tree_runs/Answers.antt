-- `tree_runs` meets its contract: its three ways out are the root's. Assumes nothing.
use Prim.Native.Nat.{ℕ, ◌<◌}
use mathlib.Core.Bool.{Bool, true}
use mathlib.Core.Path.{◌≡◌, sym, ◌∙◌}
use native.Mathlib.Omega.{arith}
use borrow.Author.Rules.{rules}
use lib.ListN.{length}
use Rattle.lists.proofs.Arrays.{of_map}
use Rattle.tables.specs.Limits.{max_loads}
use Rattle.tables.specs.declared.tables.StoredTables.{StoredTables}
use Rattle.tables.specs.Stored.{book_of, tables_of, keeps_limits}
use Rattle.tables.proofs.Kept.{kept, few-loads}
use Rattle.meaning.specs.Judge.{starts}
use Rattle.judge.specs.Verdict.{proposed}
use Rattle.judge.proofs.Root.{root-no-start, root-row-rule, root-runs}
use Rattle.judge.proofs.tree_runs.Goals as goal

-- there is a load
some-load : (t : StoredTables) → keeps_limits t ≡ true → 0 < t.loads.count → 0 < length (tables_of t).loads
some-load t h some = omega (arith, (kept t h).counted)

-- what the first test looks at
start-at : (t : StoredTables) (q : ℕ) (b : Bool) → b ≡ starts (book_of t.book) q → starts (tables_of t).book q ≡ b
unfolding tables_of book_of
start-at t q b e = sym e

pub returns-then-not-is_start : goal.returns-then-not-is_start
returns-then-not-is_start c =
    root-no-start (tables_of c.args.t) c.args.run.now (some-load c.args.t c.requires.0 c.requires.1)
    (start-at c.args.t _ _ c.is_start.ensures ∙ c.if-not-is_start.true)

pub returns-then-run-ne0 : goal.returns-then-run-ne0
returns-then-run-ne0 c =
    root-row-rule (tables_of c.args.t) c.args.run.now (some-load c.args.t c.requires.0 c.requires.1)
    (start-at c.args.t _ _ c.is_start.ensures ∙ c.if-not-is_start.false) c.if-run-ne0.true

pub slice_bounds-steps-end : goal.slice_bounds-steps-end
slice_bounds-steps-end c = omega (arith, few-loads max_loads c.args.t (search (rules, of_map)) (kept c.args.t c.requires.0))

pub slice_bounds-branch_runs-end : goal.slice_bounds-branch_runs-end
slice_bounds-branch_runs-end c =
    let e = c.look_up-steps.ensures.count in
    let k = (kept c.args.t c.requires.0).counted in
    omega (arith, e, k, few-loads max_loads c.args.t (search (rules, of_map)) (kept c.args.t c.requires.0))

pub branch_runs-requires : goal.branch_runs-requires
branch_runs-requires c =
    let e = c.look_up-steps.ensures.count in
    let k = (kept c.args.t c.requires.0).counted in
    (omega arith, omega (arith, e, k, c.requires.1), omega (arith, e, k, few-loads max_loads c.args.t (search (rules, of_map)) (kept c.args.t c.requires.0)))

pub returns : goal.returns
returns c =
    let t = tables_of c.args.t in
    c.branch_runs.ensures t (proposed c.args.run.now) c.look_up-steps.ensures
    ∙ root-runs t c.args.run.now (some-load c.args.t c.requires.0 c.requires.1)
    (start-at c.args.t _ _ c.is_start.ensures ∙ c.if-not-is_start.false) c.if-run-ne0.false
