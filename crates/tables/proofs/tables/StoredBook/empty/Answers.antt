-- `StoredBook::empty` meets its contract. Assumes nothing.
use mathlib.Core.Path.{refl}
use Rattle.lists.specs.Arrays.{laid}
use Rattle.tables.specs.Stored.{stored_book}
use Rattle.tables.proofs.tables.StoredBook.empty.Goals as goal

pub returns : goal.returns
unfolding stored_book laid
returns c = refl
