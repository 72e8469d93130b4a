-- `hulmeide::handle` meets its contract: what it returns is what `Planner::call` returned, in other records. Assumes nothing.
use Rattle.hulmeide.proofs.handle.Goals as goal

pub returns : goal.returns
returns c = rw (c.from.ensures, c.number_in.ensures) c.call-called.ensures
