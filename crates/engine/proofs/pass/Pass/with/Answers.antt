-- `with` meets its contract: the run and the rows are those after the load. Assumes nothing.
use mathlib.Core.Path.{ap, ap₂}
use mathlib.Core.List.{List}
use Rattle.runs.specs.declared.run.Run.{Run}
use Rattle.engine.specs.declared.pass.Entrance.{Entrance}
use Rattle.engine.specs.declared.pass.Pass.{Pass}
use Rattle.engine.specs.Pass.{passed_load}
use Rattle.engine.proofs.pass.Pass.with.Goals as goal

pub returns : goal.returns
unfolding passed_load
returns c =
    ap₂ (λ (u : Run) (rs : List Entrance). record { run = u; rows = rs }) c.with-next.ensures (ap (λ (s : Pass). s.rows) c.entering-next.ensures)
