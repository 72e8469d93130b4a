-- `in_range` meets its contract: the test is that of the definition. Assumes nothing.
use mathlib.Core.Path.{ap₂, ◌∙◌}
use Rattle.runs.specs.Outcome.{keeps_outcome}
use Rattle.engine.specs.Portion.{in_range}
use Rattle.engine.proofs.portion.in_range.Goals as goal

pub returns-then-keeps_limits : goal.returns-then-keeps_limits
unfolding in_range
returns-then-keeps_limits c = rw (← (c.keeps_limits.ensures ∙ ap₂ keeps_outcome c.of.ensures c.of-outcome.ensures), c.if-keeps_limits.true)

pub returns : goal.returns
unfolding in_range
returns c = rw (← (c.keeps_limits.ensures ∙ ap₂ keeps_outcome c.of.ensures c.of-outcome.ensures), c.if-keeps_limits.false)
