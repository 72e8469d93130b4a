-- `read_all` meets its contract: the run is read back from the cells of the plan's problem, and kept in range. Assumes nothing.
use mathlib.Core.Path.{ap, ◌∙◌}
use mathlib.Core.List.{◌++◌}
use lib.ListN.{drop, replicate}
use Rattle.tables.proofs.Kept.{tested}
use Rattle.engine.proofs.Portions.{cells_are, readable-here, read-from}
use Rattle.engine.proofs.portion.read_all.Goals as goal

pub read_back-found-requires : goal.read_back-found-requires
read_back-found-requires c =
    let q = c.plan_problem-p.ensures in
    readable-here c.args.t c.plan_problem-p.result q.1 q.0 _ _ c.args.work.now c.outlined-sh.ensures c.requires.count_nonzero.0 c.requires.count_nonzero.1

pub returns : goal.returns
returns c =
    let q = c.plan_problem-p.ensures in
    let n = cells_are c.args.t c.plan_problem-p.result q.1 q.0 _ _ c.args.work.now c.outlined-sh.ensures c.requires.count_nonzero.0 c.requires.count_nonzero.1 in record {
      read = read-from c.args.t c.plan_problem-p.result q.1 q.0 _ _ c.args.work.now c.outlined-sh.ensures c.requires.count_nonzero.0 c.requires.count_nonzero.1 (tested c.args.t c.requires.t_value).within _ _
          c.read_back-found.ensures.read c.in_range.ensures;
      cleared = c.read_back-found.ensures.cleared ∙ ap (λ k. replicate k 0 ++ drop k c.args.work.now) n;
    }
