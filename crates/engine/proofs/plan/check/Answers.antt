-- `check` meets its contract: the problem of the set is searched in cells of its own. Assumes nothing.
use mathlib.Core.Path.{refl, ◌∙◌}
use Rattle.engine.proofs.Planning.{check-is, check-cells}
use Rattle.engine.proofs.plan.check.Goals as goal

pub search_alone-requires : goal.search_alone-requires
search_alone-requires c =
    let q = c.check_problem-p.ensures in
    record {
      lawful = (q.1, refl);
      count_nonzero = (rw q.0 c.requires.count_nonzero, check-cells c.args.t c.check_problem-p.result q.1 c.args.set q.0);
    }

pub returns : goal.returns
returns c =
    c.search_alone.ensures ∙ check-is c.args.t c.check_problem-p.result c.check_problem-p.ensures.1 c.args.set c.check_problem-p.ensures.0
