-- `least_budget` meets its contract: the cells of the plan are filled, the plan and the least budget are read from them, and they are cleared. Assumes
-- nothing.
use Prim.Native.Nat.{ℕ, ◌≤◌}
use mathlib.Core.Path.{◌≡◌, refl, ap, ◌∙◌}
use mathlib.Core.List.{List, ◌++◌}
use native.Mathlib.Omega.{arith}
use lib.ListN.{drop, replicate}
use Rattle.tables.specs.Limits.{max_loads}
use Rattle.tables.specs.declared.tables.StoredTables.{StoredTables}
use Rattle.tables.specs.Stored.{tables_of}
use Rattle.tables.proofs.Kept.{tested, kept}
use Rattle.cells.specs.declared.problem.Problem.{Problem}
use Rattle.cells.specs.declared.problem.Shape.{Shape}
use Rattle.cells.specs.Problem.{plan_problem, shape_of, Lawful}
use Rattle.cells.specs.Work.{cells_needed}
use Rattle.meaning.specs.Cells.{cells_of}
use Rattle.engine.specs.Pass.{Complete}
use Rattle.engine.proofs.Planning.{filled-readable, readable-fits, readable-some, plan-is, plan-cells, all-cleared}
use Rattle.engine.proofs.Budgets.{at_most, least-is, need-is}
use Rattle.engine.proofs.need.least_budget.Goals as goal

-- the cells of the problem are those of the tables
own : (t : StoredTables) (p : Problem) → (p ≡ plan_problem t) × Lawful p → cells_needed (shape_of p) ≡ cells_of (tables_of t)
own t p e = plan-cells t p e.1 e.0

pub fill_cells-sh-requires : goal.fill_cells-sh-requires
fill_cells-sh-requires c =
    record {
      lawful = (c.plan_problem-p.ensures.1, refl);
      count_nonzero = (rw c.plan_problem-p.ensures.0 c.requires.count_nonzero.0, omega (arith, own c.args.t c.plan_problem-p.result c.plan_problem-p.ensures));
    }

few : (t : StoredTables) (p : Problem) (sh : Shape) (o w : List ℕ) → p ≡ plan_problem t → Complete p sh o w → t.loads.count ≤ max_loads
few t p sh o w e k =
    omega (arith, k.ready.sane.loads, ap (λ (y : Shape). y.loads) k.outlined.shape, ap (λ (p : Problem). p.tables.loads.count) e)

pub invariant_of-filled : goal.invariant_of-filled
invariant_of-filled c =
    let k = filled-readable _ _ _ c.plan_problem-p.result c.fill_cells-sh.ensures.filled in
    record { ready = k.ready; fits = readable-fits _ _ _ k; some = readable-some _ _ _ k }

pub overflow_cast-least : goal.overflow_cast-least
overflow_cast-least c =
    let k = c.fill_cells-sh.ensures.filled in
    omega (arith, at_most _ _ _ (c.unwrap_or-least.ensures ∙ c.first_above.ensures), k.ready.sane.budget)

pub said-requires : goal.said-requires
said-requires c = few c.args.t c.plan_problem-p.result _ _ _ c.plan_problem-p.ensures.0 c.fill_cells-sh.ensures.filled

pub returns : goal.returns
returns c =
    let s = c.args in
    let p = c.plan_problem-p.result in
    let q = c.plan_problem-p.ensures in
    let g = c.fill_cells-sh.ensures in
    let w = (tested s.t c.requires.t_value.0).within in
    let found = c.trace-found.ensures p g.filled ∙ plan-is s.t p q.1 q.0 in
    let least = least-is p _ _ _ g.filled s.t q.0 w s.worth _ _ c.floor_of-floor.ensures (c.unwrap_or-least.ensures ∙ c.first_above.ensures) in record {
      value = c.said.ensures ∙ need-is s.t w (omega (arith, few c.args.t c.plan_problem-p.result _ _ _ c.plan_problem-p.ensures.0 c.fill_cells-sh.ensures.filled, (kept s.t c.requires.t_value.0).counted)) s.worth _ found _ least;
      work_after =
          all-cleared s.work.now _ _ _ _ c.clear.ensures (c.cells_needed-n.ensures ∙ ap cells_needed g.shape) g.rest
          ∙ ap (λ (c : ℕ). replicate c 0 ++ drop c s.work.now) (own s.t p q);
    }
