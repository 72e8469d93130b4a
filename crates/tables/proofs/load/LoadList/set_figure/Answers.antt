-- `LoadList::set_figure` meets its contract. Assumes nothing.
use Rattle.tables.specs.Operations.{figure_set}
use Rattle.tables.proofs.load.LoadList.set_figure.Goals as goal

pub returns : goal.returns
unfolding figure_set
returns c = rw (c.replace.ensures, c.with_figure.ensures, c.load-load.ensures)
