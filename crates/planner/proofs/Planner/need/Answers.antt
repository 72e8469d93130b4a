-- `Planner::need` meets its contract. Assumes nothing.
use mathlib.Core.Path.{◌≡◌}
use Rattle.std.proofs.Common.{rules}
use Rattle.planner.specs.Decided.{need_answer}
use Rattle.planner.proofs.Told.{needed_is}
use Rattle.planner.proofs.Planner.need.Goals as goal

pub returns : goal.returns
returns c =
    let said = c.map.ensures.cases in
    let answer : c.map.result ≡ need_answer c.needed-least.result = needed_is c.needed-least.result c.map.result _ said (λ b x q. search rules) in
    rw (c.unshown.ensures, answer) c.needed-least.ensures
