-- `read_back` meets its contract: the run is read back, and the cells are cleared. Assumes nothing.
use mathlib.Core.Path.{ap, ◌∙◌}
use mathlib.Core.List.{◌++◌}
use lib.ListN.{drop, replicate}
use Rattle.engine.proofs.Planning.{readable-fits, readable-some}
use Rattle.engine.proofs.plan.read_back.Goals as goal

pub invariant_of-filled : goal.invariant_of-filled
invariant_of-filled c =
    let k = c.requires in record { ready = k.ready; fits = readable-fits _ _ _ k; some = readable-some _ _ _ k }

pub returns : goal.returns
returns c = record {
  read = c.trace-found.ensures;
  cleared = c.clear.ensures ∙ ap (λ k. replicate k 0 ++ drop k c.args.work.now) c.cells_needed-n.ensures;
}
