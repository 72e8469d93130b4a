-- What the judge looks up of each load before its walk: the numbers of a run, turned into stages.
-- They stand for "Each load rule begins with its load's state" and "the row rules .. give each child its state" of paper 01, and for "a rule serves
-- only loads of its kind" of request Eight of paper 02. A stage is at least 1, so 0 stands for none. Assumes nothing.
use Rattle.std.specs.Prelude.{ℕ, suc, ◌-◌, ◌<◌, ◌≡◌, ◌&&◌, List, eqb, length, get_or}
use Rattle.lists.specs.Argmax.{guard}
use Rattle.marks.specs.declared.Marks.{Marks}
use Rattle.tables.specs.declared.rule.Transition.{Transition}
use Rattle.tables.specs.declared.load.Load.{Load}
use Rattle.tables.specs.Tables.{Tables}
use Rattle.tables.specs.Lawful.{Lawful}
use Rattle.meaning.specs.Runs.{rule, Assigned}
use Rattle.meaning.specs.Cells.{load_at}
use Rattle.judge.specs.declared.figures.Step.{Step}

-- of a load with these numbers: the stage of its load rule, if this begins with the load's state and is of its kind; the stage at which its row
-- rule begins, if this gives the load its state; the stage at which the row goes on; and its parent
unfoldable pub step_of : (load_rules row_rules : List Transition) → Load → Assigned → Step
step_of ls rs l a = record {
  begin = guard (eqb (rule ls a.load_rule).from a.state && eqb (rule ls a.load_rule).kind l.kind) (rule ls a.load_rule).to;
  stage = guard (eqb (rule rs a.row_rule).label a.state) (rule rs a.row_rule).from;
  next = (rule rs a.row_rule).to;
  parent = l.parent;
}

abbrev pub step_at : Tables → (ℕ → Assigned) → ℕ → Step
step_at t ρ k = step_of t.book.load_rules t.book.row_rules (load_at t.loads k) (ρ k)

-- load k's step is k - 1 places on
abbrev pub no_step : Step
no_step = record { begin = 0; stage = 0; next = 0; parent = 0 }

abbrev pub step_in : List Step → ℕ → Step
step_in steps k = get_or steps (k - 1) no_step

-- there is a step for each load, with its parent
pub record ParentsOf (ls : List Load) (steps : List Step) : Type 0 where
  pub count : length ls ≡ length steps
  pub parent : (j : ℕ) → j < length steps → (get_or steps j no_step).parent ≡ (load_at ls (suc j)).parent

-- these are the steps of the loads of tables that keep the limits
pub record LookedUp (t : Tables) (ρ : ℕ → Assigned) (ends : Marks) (steps : List Step) : Type 0 where
  pub lawful : Lawful t
  pub end_stages : t.book.ends ≡ ends
  pub count : length t.loads ≡ length steps
  pub each : (j : ℕ) → j < length steps → get_or steps j no_step ≡ step_at t ρ (suc j)
