-- `Planner::keeps_limits` meets its contract. Assumes nothing.
use mathlib.Core.Path.{◌≡◌, sym, ap, ◌∙◌}
use borrow.Author.Rules.{rules}
use borrow.Author.Tests.{leb-true}
use lib.Dec.{leb}
use lib.ListN.{length}
use Rattle.tables.specs.Limits.{max_loads}
use Rattle.runs.specs.declared.outcome.RunRange.{RunRange}
use Rattle.runs.specs.Outcome.{keeps_outcome}
use Rattle.calls.proofs.State.{kept_by}
use Rattle.calls.proofs.Work.{clash}
use Rattle.planner.specs.Planner.{held}
use Rattle.planner.proofs.Planner.keeps_limits.Goals as goal
use Rattle.planner.proofs.Planner.keeps_limits.Goals.{then-keeps_limits, else-keeps_limits}

pub returns-then-keeps_limits-2-clause-kept : goal.returns-then-keeps_limits-2-clause-kept
returns-then-keeps_limits-2-clause-kept c e =
    let p = c.args.self in
    let run = p.outcome.run in
    -- the lengths of the arrays
    let states : length run.states ≡ max_loads = search rules in
    let load_rules : length run.load_rules ≡ max_loads = search rules in
    let row_rules : length run.row_rules ≡ max_loads = search rules in
    elim c.if-keeps_limits.branch [
      | then-keeps_limits w ↦
          let outcome = w.keeps_limits-then-keeps_limits.ensures ∙ ap (λ (m : RunRange). keeps_outcome m p.outcome) w.of.ensures in
          kept_by (held p) (c.keeps_limits.ensures.exactly.0 w.if-keeps_limits.true) states load_rules row_rules
          (sym outcome ∙ sym w.value-is ∙ c.if-keeps_limits-2.true) (leb-true _ _ (sym (ap (leb p.filled) c.cells_of.ensures) ∙ e))
      | else-keeps_limits w ↦ absurd (clash (sym c.if-keeps_limits-2.true ∙ w.value-is ∙ w.if-keeps_limits.false))
    ]
