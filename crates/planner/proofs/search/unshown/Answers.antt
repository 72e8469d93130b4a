-- `unshown` meets its contract: the empty run is that of no entries. Assumes nothing.
use mathlib.Core.Path.{refl}
use Rattle.lists.specs.Arrays.{laid}
use Rattle.runs.specs.Runs.{mark_all, run_of}
use Rattle.planner.proofs.search.unshown.Goals as goal

pub returns : goal.returns
unfolding run_of laid mark_all
returns c = refl
