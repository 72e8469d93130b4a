-- What a command that can print `ok` answers, and the planner after it: its number by "Causes and numbers", and its row of "Lines" of
-- paper 01 where that is 0. Assumes nothing.
use Rattle.std.specs.Prelude.{ℕ, ◌≡◌, Result, Ok, Err}
use Rattle.lists.specs.Tests.{pick}
use Rattle.lines.specs.declared.Change.{Change}
use Rattle.lines.specs.Answers.{answer_of, numbered}
use Rattle.tables.specs.declared.tables.StoredTables.{StoredTables}
use Rattle.tables.specs.declared.refusal.Refusal.{Refusal}
use Rattle.tables.specs.declared.refusal.Refusal.TheVariants.{OutOfRange}
use Rattle.tables.specs.Refusals.{told}
use Rattle.tables.specs.declared.rule.RuleRange.{RuleRange}
use Rattle.tables.specs.declared.rule.Transition.{Transition}
use Rattle.tables.specs.declared.load.Load.{Load}
use Rattle.tables.specs.Limits.{rule_in, load_in}
use Rattle.tables.specs.Stored.{stored}
use Rattle.calls.specs.State.{State, stored_state}
use Rattle.calls.specs.Rows.{Changing, changes, changing}
use Rattle.calls.specs.Causes.{lowest}
use Rattle.calls.specs.Effects.{state_by}
use Rattle.planner.specs.declared.changes.Changed.{Changed}
use Rattle.planner.specs.Planner.{planner_of}

-- the rule or the load that a line names, where its numbers are in their ranges
unfoldable pub named_rule : RuleRange → Transition → Result Transition Refusal
named_rule m r = pick (rule_in m r) (Ok r) (Err OutOfRange)

unfoldable pub named_load : (number : ℕ) → Load → Result Load Refusal
named_load k l = pick (load_in k l) (Ok l) (Err OutOfRange)

-- what a change tells: the tables after it where its causes give the number 0, else that number
unfoldable pub told_by : State → Changing → Result StoredTables ℕ
told_by s x = told (lowest x.causes) (stored x.after)

abbrev pub told_for : State → Change → Result StoredTables ℕ
told_for s c = told_by s (changing s.tables c)

-- what a change answers, and the planner after it. (No change's number depends on the cells.)
pub record MadeBy (s : State) (x : Changing) (r : Changed) : Type 0 where
  pub answer : numbered r.answer ≡ answer_of (lowest x.causes)
  pub planner : r.planner ≡ planner_of (stored_state (state_by s (lowest x.causes) (changes x)))

abbrev pub ChangedBy : State → Change → Changed → Type 0
ChangedBy s c r = MadeBy s (changing s.tables c) r
