-- `Planner::made` meets its contract: a case for each change. Assumes nothing.
use Rattle.calls.specs.Rows.{changing}
use Rattle.planner.proofs.Planner.made.Goals as goal

pub returns-in-Start : goal.returns-in-Start
unfolding changing
returns-in-Start c = rw c.in-Start.is c.mark.ensures

pub returns-in-End : goal.returns-in-End
unfolding changing
returns-in-End c = rw c.in-End.is c.mark-in-End.ensures

pub returns-in-Rule : goal.returns-in-Rule
unfolding changing
returns-in-Rule c = rw c.in-Rule.is c.add_rule.ensures

pub returns-in-Row : goal.returns-in-Row
unfolding changing
returns-in-Row c = rw c.in-Row.is c.add_rule-in-Row.ensures

pub returns-in-Power : goal.returns-in-Power
unfolding changing
returns-in-Power c = rw c.in-Power.is c.set_figure.ensures

pub returns-in-Worth : goal.returns-in-Worth
unfolding changing
returns-in-Worth c = rw c.in-Worth.is c.set_figure-in-Worth.ensures
