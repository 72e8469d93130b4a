-- `of` meets its contract: the empty run has no entries. Assumes nothing.
use Rattle.lists.specs.Arrays.{laid}
use Rattle.runs.specs.Runs.{mark_all, run_of}
use Rattle.runs.proofs.outcome.StoredOutcome.of.Goals as goal

pub returns-in-None : goal.returns-in-None
unfolding run_of laid mark_all
returns-in-None c = rw c.in-None.is
