-- `Planner::judge` meets its contract. Assumes nothing.
use mathlib.Core.Path.{sym, ◌∙◌}
use Rattle.planner.specs.Planner.{held}
use Rattle.planner.proofs.Judging.{kept_by, broken-by}
use Rattle.planner.proofs.Planner.judge.Goals as goal

pub returns-then-not-keeps_limits : goal.returns-then-not-keeps_limits
returns-then-not-keeps_limits c =
    sym (broken-by (held c.args.self) c.args.run.now (sym c.keeps_limits.ensures.test ∙ c.if-not-keeps_limits.true))

pub returns : goal.returns
returns c =
    c.judge.ensures ∙ sym (kept_by (held c.args.self) c.args.run.now (sym c.keeps_limits.ensures.test ∙ c.if-not-keeps_limits.false))
