-- `Run::entry` meets its contract. Assumes nothing.
use native.Mathlib.Numerals.{add-one}
use Rattle.runs.proofs.run.Run.entry.Goals as goal

pub returns : goal.returns
returns c = rw (c.mark_in.ensures, add-one)
