-- The outcome of a plan, which a planner keeps beside the tables: on paper, as a planner holds it, and the range of its figures.
-- It stands for "A plan, or its refusal 9, stores its outcome beside the tables" and "A stored figure out of range for the tables is refusal 1"
-- of request Five of paper 02. Assumes nothing.
use Rattle.std.specs.Prelude.{ℕ, zero, suc, Bool, true, false, ◌&&◌, List, [], Option, None, Some, Result, Ok, Err, eqb, leb, length, drop}
use Rattle.lists.specs.Tests.{every, every_from}
use Rattle.marks.specs.Sets.{loads_up_to}
use Rattle.tables.specs.declared.tables.StoredTables.{StoredTables}
use Rattle.tables.specs.declared.entry.Entry.{Entry}
use Rattle.tables.specs.declared.refusal.Refusal.{Refusal}
use Rattle.tables.specs.declared.refusal.Refusal.TheVariants.{NoPlan, NoneFits}
use Rattle.tables.specs.Tables.{Tables}
use Rattle.tables.specs.Limits.{max_loads}
use Rattle.meaning.specs.Runs.{named_in}
use Rattle.meaning.specs.Choice.{assigned}
use Rattle.runs.specs.declared.run.Run.{Run}
use Rattle.runs.specs.declared.outcome.StoredOutcome.{StoredOutcome}
use Rattle.runs.specs.declared.outcome.RunRange.{RunRange}
use Rattle.runs.specs.Runs.{run_of, entries_to}

-- on paper: "no current plan"; "refusal 9 included"; or a plan, by its load lines. (Worth, power and number on are those of the set that they
-- show, on the tables.)
pub data Outcome : Type 0 where
  nothing : Outcome
  no_set : Outcome
  planned : List Entry → Outcome

abbrev pub is_nothing : Outcome → Bool
is_nothing nothing = true
is_nothing no_set = false
is_nothing (planned es) = false

abbrev pub is_no_set : Outcome → Bool
is_no_set nothing = false
is_no_set no_set = true
is_no_set (planned es) = false

-- the load lines
abbrev pub entries_of : Outcome → List Entry
entries_of nothing = []
entries_of no_set = []
entries_of (planned es) = es

-- what a search found: its best is 0 where it found nothing
abbrev pub found : (best : ℕ) → List Entry → Outcome
found zero es = no_set
found (suc v) es = planned es

-- ---- in a planner
abbrev pub status_of : Outcome → ℕ
status_of nothing = 0
status_of no_set = 1
status_of (planned es) = 2

abbrev pub stored_outcome : (places : ℕ) → Outcome → StoredOutcome
stored_outcome w o = record { status = status_of o; run = run_of w (entries_of o) }

-- what a search found, as a planner stores it: no set, or the plan of a run
abbrev pub stored_found : Option Run → StoredOutcome
stored_found None = stored_outcome max_loads no_set
stored_found (Some r) = record { status = 2; run = r }

-- the run of the latest plan; else why there is none
abbrev pub latest_by : (status : ℕ) → Run → Result Run Refusal
latest_by zero r = Err NoPlan
latest_by (suc zero) r = Err NoneFits
latest_by (suc (suc k)) r = Ok r

-- what a status says
abbrev pub of_status : (status : ℕ) → List Entry → Outcome
of_status zero es = nothing
of_status (suc zero) es = no_set
of_status (suc (suc k)) es = planned es

-- what lies there, with so many loads
abbrev pub outcome_of : (loads : ℕ) → StoredOutcome → Outcome
outcome_of n o = of_status o.status (entries_to o.run n)

-- ---- "out of range for the tables": the limits of a run of theirs
abbrev pub range_of : Tables → RunRange
range_of t = record {
  loads = length t.loads;
  states = t.book.states;
  load_rules = length t.book.load_rules;
  row_rules = length t.book.row_rules;
}

-- as a planner holds them
abbrev pub held_range : StoredTables → RunRange
held_range s = record {
  loads = s.loads.count;
  states = s.book.states;
  load_rules = s.book.load_rules.count;
  row_rules = s.book.row_rules.count;
}

-- "a state, a load rule and a row rule (0 for the root)" that are in the book
unfoldable pub figures_in : RunRange → Entry → Bool
figures_in m e = named_in m.states m.load_rules m.row_rules e.number (assigned e)

-- the line of load k, with mark 0 or 1
unfoldable pub entry_in : RunRange → (k : ℕ) → Entry → Bool
entry_in m k e = eqb e.number k && leb e.mark 1 && figures_in m e

-- "A run gives every load ..": a line for each load
unfoldable pub outcome_in : RunRange → Outcome → Bool
outcome_in m nothing = true
outcome_in m no_set = true
outcome_in m (planned es) = eqb (length es) m.loads && every_from (entry_in m) 1 es

-- the places in use: one for each load, where it is a plan
abbrev pub used_by : (loads status : ℕ) → ℕ
used_by n zero = 0
used_by n (suc zero) = 0
used_by n (suc (suc k)) = n

abbrev pub zero_from : ℕ → List ℕ → Bool
zero_from n xs = every (λ x. eqb x 0) (drop n xs)

-- "unused places hold 0", and no load is on that is not there
unfoldable pub run_free : (used : ℕ) → Run → Bool
run_free n r = zero_from n r.states && zero_from n r.load_rules && zero_from n r.row_rules && loads_up_to n r.set

-- is an outcome that is handed in within the limits?
unfoldable pub keeps_outcome : RunRange → StoredOutcome → Bool
keeps_outcome m o = leb o.status 2 && run_free (used_by m.loads o.status) o.run && outcome_in m (outcome_of m.loads o)
