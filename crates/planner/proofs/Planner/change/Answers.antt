-- `Planner::change` meets its contract: what the change tells, with the planner made of it. Assumes nothing.
use mathlib.Core.Path.{sym, ap, ◌∙◌}
use Rattle.lists.specs.Arrays.{laid}
use Rattle.tables.specs.Refusals.{numbered}
use Rattle.runs.specs.Runs.{mark_all, run_of}
use Rattle.planner.proofs.Commands.{answered_is, settled_is}
use Rattle.planner.proofs.Planner.change.Goals as goal

pub returns-in-Ok : goal.returns-in-Ok
unfolding run_of laid mark_all
returns-in-Ok c =
    let told = sym (ap numbered c.in-Ok.is) ∙ c.made.ensures in
    record { answer = answered_is c.args.self c.requires c.args.c told; planner = settled_is c.args.self c.requires c.args.c told }

pub returns-in-Err : goal.returns-in-Err
returns-in-Err c =
    let told = sym (ap numbered c.in-Err.is) ∙ c.made.ensures in
    record { answer = answered_is c.args.self c.requires c.args.c told; planner = settled_is c.args.self c.requires c.args.c told }
