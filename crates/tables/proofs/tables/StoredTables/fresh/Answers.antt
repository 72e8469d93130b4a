-- `StoredTables::fresh` meets its contract. Assumes nothing.
use Rattle.lists.specs.Arrays.{laid}
use Rattle.tables.specs.Tables.{fresh}
use Rattle.tables.specs.Stored.{stored}
use Rattle.tables.proofs.tables.StoredTables.fresh.Goals as goal

pub returns : goal.returns
unfolding fresh stored laid
returns c = rw c.empty.ensures
