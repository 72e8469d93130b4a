-- `plan` meets its contract: the problem is searched. Assumes nothing.
use Prim.Native.Nat.{ℕ}
use mathlib.Core.Path.{ap, ◌∙◌}
use mathlib.Core.List.{◌++◌}
use native.Mathlib.Omega.{arith}
use lib.ListN.{drop, replicate}
use Rattle.engine.proofs.Planning.{plan-is, plan-cells}
use Rattle.engine.proofs.plan.plan.Goals as goal

pub search-requires : goal.search-requires
search-requires c =
    let q = c.plan_problem-p.ensures in
    record {
      lawful = q.1;
      count_nonzero = (rw q.0 c.requires.count_nonzero.0, omega (arith, plan-cells c.args.t c.plan_problem-p.result q.1 q.0));
    }

pub returns : goal.returns
returns c =
    let p = c.plan_problem-p.result in
    let q = c.plan_problem-p.ensures in
    record {
      value = c.search.ensures.answer ∙ plan-is c.args.t p q.1 q.0;
      work_after = c.search.ensures.cleared ∙ ap (λ (n : ℕ). replicate n 0 ++ drop n c.args.work.now) (plan-cells c.args.t p q.1 q.0);
    }
