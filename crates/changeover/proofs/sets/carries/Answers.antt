-- `carries` meets its contract. Assumes nothing.
use mathlib.Core.Path.{refl}
use Rattle.tables.specs.Limits.{max_loads}
use Rattle.tables.specs.Stored.{tables_of}
use Rattle.tables.proofs.Stored.{held-loads}
use Rattle.changeover.specs.Sets.{carries}
use Rattle.changeover.proofs.sets.carries.Goals as goal

pub figures_of-figures-requires : goal.figures_of-figures-requires
figures_of-figures-requires c = held-loads max_loads c.args.tables c.requires

pub all_fed-requires : goal.all_fed-requires
all_fed-requires c = held-loads max_loads c.args.tables c.requires

pub returns : goal.returns
unfolding carries tables_of
returns c = rw (c.figures_of-figures.ensures, c.from.ensures, c.all_fed.ensures) refl
