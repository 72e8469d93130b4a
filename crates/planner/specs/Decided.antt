-- What a row is answered, the run that it shows and the planner after it.
-- It stands for "An accepted change prints `ok`. A plan prints .. An allowed check prints `yes` and the same load lines." of paper 01, and for "14,
-- `save1` while some load or load rule has a kind other than 0" and "15, the plan at the budget in force has worth below v" of requests Eight and Nine
-- of paper 02.
-- Assumes nothing.
use Rattle.std.specs.Prelude.{ℕ, ◌≡◌, Bool, List, [], length, Option, None, Some, Result, Ok, Err}
use Rattle.lists.specs.Tests.{pick}
use Rattle.lines.specs.declared.SaveForm.{SaveForm}
use Rattle.lines.specs.declared.answer.Answer.{Answer}
use Rattle.lines.specs.declared.answer.Answer.TheVariants.{Accepted, Planned, Allowed, Saved, Needed}
use Rattle.lines.specs.Saved.{loses}
use Rattle.tables.specs.declared.refusal.Refusal.{Refusal}
use Rattle.tables.specs.declared.refusal.Refusal.TheVariants as no
use Rattle.tables.specs.declared.entry.Entry.{Entry}
use Rattle.tables.specs.declared.load.LoadList.{LoadList}
use Rattle.tables.specs.Stored.{loads_of}
use Rattle.marks.specs.Sets.{size_of, mark_in}
use Rattle.tables.specs.Limits.{max_loads}
use Rattle.lines.specs.Answers.{number_of, numbered}
use Rattle.calls.specs.State.{State, stored_state}
use Rattle.calls.specs.Rows.{Row, causes_of}
use Rattle.calls.specs.Causes.{lowest}
use Rattle.calls.specs.Effects.{state_by}
use Rattle.calls.specs.Printing.{shown_by, work_after}
use Rattle.runs.specs.declared.run.Run.{Run}
use Rattle.runs.specs.Runs.{run_of, entries_to}
use Rattle.engine.specs.Figures.{figures_of}
use Rattle.planner.specs.declared.Planner.{Planner}
use Rattle.planner.specs.declared.search.Decided.{Decided}
use Rattle.planner.specs.Planner.{planner_of}

-- what a save in a form is answered, where kinds are in use or not: 14 where a kind would be lost
unfoldable pub save_answer : SaveForm → (in_use : Bool) → Result Answer Refusal
save_answer f b = pick (loses f b) (Err no.KindsInUse) (Ok (Saved f))

-- what a plan is answered, by the run that it found: with the figures of its set
unfoldable pub plan_answer : LoadList → Option Run → Result Answer Refusal
plan_answer ls None = Err no.NoneFits
plan_answer ls (Some x) = let figures = figures_of (loads_of ls) (mark_in x.set) in Ok (Planned figures.worth figures.power (size_of x.set))

-- what `need` is answered, by what the cells say
abbrev pub need_answer : Result ℕ Refusal → Result Answer Refusal
need_answer (Ok b) = Ok (Needed b)
need_answer (Err r) = Err r

-- an answer that shows no run, and that of an allowed check, which shows one
abbrev pub unshown : Result Answer Refusal → Planner → Decided
unshown a p = record { answer = a; run = None; planner = p }

abbrev pub allowed : Planner → Result Run Refusal → Decided
allowed p (Ok x) = record { answer = Ok Allowed; run = Some x; planner = p }
allowed p (Err e) = unshown (Err e) p

-- the entries of a run that is shown, and the run that an answer with these entries shows: that of a plan or of an allowed check
abbrev pub entries_shown : Option Run → (count : ℕ) → List Entry
entries_shown None n = []
entries_shown (Some x) n = entries_to x n

abbrev pub run_beside : Answer → List Entry → Option Run
run_beside Accepted es = None
run_beside (Planned v w n) es = Some (run_of max_loads es)
run_beside Allowed es = Some (run_of max_loads es)
run_beside (Saved f) es = None
run_beside (Needed b) es = None

abbrev pub run_shown : Result Answer ℕ → List Entry → Option Run
run_shown (Ok a) es = run_beside a es
run_shown (Err n) es = None

-- what was decided, with the paper's number of a refusal
pub record Decision : Type 0 where
  pub answer : Result Answer ℕ
  pub run : Option Run
  pub planner : Planner

abbrev pub decision : Decided → Decision
decision d = record { answer = numbered d.answer; run = d.run; planner = d.planner }

-- the answer, the run and the planner after it, by the number given
unfoldable pub decided_by : State → (number : ℕ) → Row → Decision
decided_by s n r =
    let x = shown_by n r in record { answer = x.answer; run = run_shown x.answer x.entries; planner = planner_of (stored_state (state_by s n r)) }

-- of a row, where there is room for the answer: the rows from 2 on of "Causes and numbers"
abbrev pub decided : State → (cells : ℕ) → Row → Decision
decided s m r = decided_by s (lowest (causes_of m r)) r

-- a row was answered so, and the work before it became the work after it
pub record Decides (s : State) (r : Row) (before after : List ℕ) (d : Decided) : Type 0 where
  pub answer : decision d ≡ decided s (length before) r
  pub work : after ≡ work_after (number_of (numbered d.answer)) r before
