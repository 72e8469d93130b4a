-- `judge` meets its contract: each way out is an answer's own case. Assumes nothing.
use mathlib.Core.Path.{◌≡◌, sym, ◌∙◌}
use mathlib.Core.Bool.{Bool, true}
use native.Mathlib.Omega.{arith}
use borrow.Author.Rules.{rules}
use lib.ListN.{length}
use Rattle.lists.proofs.Arrays.{of_map}
use Rattle.tables.specs.Limits.{max_loads}
use Rattle.tables.specs.declared.tables.StoredTables.{StoredTables}
use Rattle.tables.specs.Stored.{tables_of, keeps_limits}
use Rattle.tables.proofs.Kept.{kept, few-loads}
use Rattle.judge.proofs.Answers.{limit-broken, no-loads, not_three, says}
use Rattle.judge.proofs.judge.Goals as goal

-- past the first test: the tables keep the limits, and as many loads are held as are counted
keeps : (t : StoredTables) (b : Bool) → b ≡ keeps_limits t → b ≡ true → keeps_limits t ≡ true
keeps t b e h = sym e ∙ h

counted : (t : StoredTables) → keeps_limits t ≡ true → length (tables_of t).loads ≡ t.loads.count
counted t h = (kept t h).counted

pub returns-then-not-keeps_limits : goal.returns-then-not-keeps_limits
returns-then-not-keeps_limits c =
    let a = c.args in
    limit-broken a.t a.run.now (sym c.keeps_limits.ensures.equation ∙ c.if-not-keeps_limits.true)

pub returns-then-n-eq0 : goal.returns-then-n-eq0
returns-then-n-eq0 c =
    let a = c.args in
    let k = keeps a.t _ c.keeps_limits.ensures.equation c.if-not-keeps_limits.false in
    no-loads a.t a.run.now k (counted a.t k ∙ c.if-n-eq0.true)

pub overflow_mul-n : goal.overflow_mul-n
overflow_mul-n c =
    let t = c.args.t in
    let k = keeps t _ c.keeps_limits.ensures.equation c.if-not-keeps_limits.false in
    omega (arith, few-loads max_loads t (search (rules, of_map)) (kept t k))

pub returns-then-run-n : goal.returns-then-run-n
returns-then-run-n c =
    let a = c.args in
    let k = keeps a.t _ c.keeps_limits.ensures.equation c.if-not-keeps_limits.false in
    not_three a.t a.run.now k (omega (arith, counted a.t k, c.if-n-eq0.false)) (λ e. c.if-run-n.true (omega (arith, counted a.t k)))

pub tree_runs-requires : goal.tree_runs-requires
tree_runs-requires c =
    (keeps c.args.t _ c.keeps_limits.ensures.equation c.if-not-keeps_limits.false, omega (arith, c.if-n-eq0.false), c.if-run-n.false)

-- past the third: what the judge says
pub returns : goal.returns
returns c =
    let t = c.args.t in
    let k = keeps t _ c.keeps_limits.ensures.equation c.if-not-keeps_limits.false in
    says t c.args.run.now k (omega (arith, counted t k, c.if-n-eq0.false)) (omega (arith, counted t k, c.if-run-n.false)) c.tree_runs.ensures
