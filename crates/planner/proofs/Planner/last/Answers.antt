-- `Planner::last` meets its contract. Assumes nothing.
use mathlib.Core.Path.{◌≡◌, sym, ap, ◌∙◌}
use Rattle.std.specs.Prelude.{Ok, Err}
use Rattle.runs.specs.Outcome.{latest_by}
use Rattle.planner.specs.Decided.{decision}
use Rattle.planner.proofs.Commands.{few}
use Rattle.planner.proofs.Searching.{latest-shown}
use Rattle.planner.proofs.Planner.last.Goals as goal

pub plan_answer-requires : goal.plan_answer-requires
plan_answer-requires c = few c.args.self c.requires

pub returns-in-Ok : goal.returns-in-Ok
returns-in-Ok c =
    let o = c.args.self.outcome in
    let found : latest_by o.status o.run ≡ Ok _ = sym c.latest.ensures ∙ c.in-Ok.is in
    rw c.plan_answer.ensures (rw found at (latest-shown c.args.self c.requires))

pub returns-in-Err : goal.returns-in-Err
returns-in-Err c =
    let o = c.args.self.outcome in
    let found : latest_by o.status o.run ≡ Err _ = sym c.latest.ensures ∙ c.in-Err.is in
    ap decision c.refused.ensures ∙ (rw found at (latest-shown c.args.self c.requires))
