-- `put_text` meets its contract. Assumes nothing.
use mathlib.Core.Path.{refl}
use Rattle.lines.proofs.Writes.{copied}
use Rattle.lines.proofs.writing.Writer.put_text.Goals as goal

pub returns : goal.returns
returns c = record { lent = refl; wrote = record { list = rw c.copy_from_slice.ensures.after (copied _ _ _ c.requires.fits); end = refl } }
