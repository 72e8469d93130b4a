-- `save_answer` meets its contract: refused where a kind would be lost. Assumes nothing.
use mathlib.Core.Path.{sym, ◌∙◌}
use Rattle.planner.specs.Decided.{save_answer}
use Rattle.planner.proofs.call.save_answer.Goals as goal

pub returns-then-loses : goal.returns-then-loses
unfolding save_answer
returns-then-loses c = rw (sym c.loses.ensures ∙ c.if-loses.true)

pub returns : goal.returns
unfolding save_answer
returns c = rw (sym c.loses.ensures ∙ c.if-loses.false)
