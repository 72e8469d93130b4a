-- `Planner::decide` meets its contract: a case for each sort of command. Assumes nothing.
use mathlib.Core.Path.{refl, ap, ◌∙◌}
use lib.Dec.{lit<}
use Rattle.tables.specs.declared.refusal.Refusal.TheVariants as no
use Rattle.lines.specs.declared.Command.TheVariants.{Broken, TooLong}
use Rattle.calls.specs.Rows.{row}
use Rattle.calls.specs.Causes.{lowest}
use Rattle.lines.specs.declared.answer.Answer.{Answer}
use Rattle.tables.specs.declared.refusal.Refusal.{Refusal}
use Rattle.std.specs.Prelude.{Result}
use Rattle.planner.specs.Planner.{state_in}
use Rattle.planner.specs.Decided.{save_answer, unshown, decision}
use Rattle.planner.proofs.Searching.{turns_down}
use Rattle.planner.proofs.Deciding.{works-in-none, change-done, save-done}
use Rattle.planner.proofs.Planner.decide.Goals as goal

pub returns-in-Change : goal.returns-in-Change
unfolding row
returns-in-Change c =
    rw c.in-Change.is (change-done (state_in c.args.self) _ c.args.work.now c.change.ensures c.changed.ensures)

pub returns-in-Check : goal.returns-in-Check
unfolding row
returns-in-Check c = rw c.in-Check.is (works-in-none _ _ _ refl c.check.ensures)

pub returns-in-Save : goal.returns-in-Save
unfolding row
returns-in-Save c =
    let p = c.args.self in
    rw c.in-Save.is (works-in-none (state_in p) _ c.args.work.now refl
    (ap decision c.unshown.ensures ∙ ap (λ (a : Result Answer Refusal). decision (unshown a p)) (c.save_answer.ensures ∙ ap (save_answer _) c.has_kinds.ensures) ∙ save-done p c.requires _))

pub returns-in-Last : goal.returns-in-Last
unfolding row
returns-in-Last c = rw c.in-Last.is (works-in-none _ _ _ refl c.last.ensures)

pub returns-in-Broken : goal.returns-in-Broken
unfolding row lowest
returns-in-Broken c =
    let p = c.args.self in
    rw c.in-Broken.is (turns_down p c.requires (row (state_in p) Broken) no.Broken c.args.work.now (lit< tt) refl c.refused.ensures refl)

pub returns-in-TooLong : goal.returns-in-TooLong
unfolding row lowest
returns-in-TooLong c =
    let p = c.args.self in
    rw c.in-TooLong.is (turns_down p c.requires (row (state_in p) TooLong) no.TooLong c.args.work.now (lit< tt) refl c.refused-in-TooLong.ensures refl)
