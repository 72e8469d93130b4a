-- `Planner::drop_load` meets its contract. Assumes nothing.
use Rattle.planner.proofs.Commands.{no-load, load-stays, load-leaves}
use Rattle.planner.proofs.Planner.drop_load.Goals as goal

pub returns-then-not-between : goal.returns-then-not-between
returns-then-not-between c =
    no-load c.args.self c.requires c.args.number c.between.ensures c.if-not-between.true

pub returns-then-has_children : goal.returns-then-has_children
returns-then-has_children c =
    load-stays c.args.self c.requires c.args.number c.between.ensures c.if-not-between.false c.has_children.ensures c.if-has_children.true

pub returns : goal.returns
returns c =
    load-leaves c.args.self c.requires c.args.number c.between.ensures c.if-not-between.false c.has_children.ensures c.if-has_children.false c.drop_load.ensures
