-- `split` meets its contract: it does not count which of the two comes first. Assumes nothing.
use mathlib.Core.Path.{ap₂, ◌∙◌}
use Rattle.meaning.specs.Cell.{◌⊕◌}
use Rattle.meaning.proofs.Cell.{⊕-comm}
use Rattle.engine.proofs.filled.Filled.split.Goals as goal

pub returns : goal.returns
returns c = c.join.ensures ∙ ⊕-comm _ _ ∙ ap₂ ◌⊕◌ c.branch_at-branch.ensures.0 c.row_at-row.ensures.0
