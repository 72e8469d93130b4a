-- What a planner keeps from call to call: on paper, and as the planner holds it. That is the tables, the outcome of the latest plan, and how many cells
-- portions have filled of the next.
-- It stands for "Book, marks, rules, loads and budget are the tables" and "A planner handed in keeps these limits when .." of paper 01, and for
-- "stores its outcome beside the tables" and "A planner with more filled than it has cells is refusal 1" of requests Five and Eleven of paper 02.
-- What is kept beside them goes here: a field on paper, a field in the planner, what `fresh` has there, and its limit. Assumes nothing.
use Rattle.std.specs.Prelude.{ℕ, ◌≤◌, ◌≡◌, Bool, true, ◌&&◌, leb, length}
use Rattle.tables.specs.declared.tables.StoredTables.{StoredTables}
use Rattle.tables.specs.Tables as on-paper
use Rattle.tables.specs.Tables.{Tables}
use Rattle.tables.specs.Limits.{Limits}
use Rattle.tables.specs.Stored.{stored, places_of, tables_of, keeps_limits, Lengths, Holds}
use Rattle.meaning.specs.Cells.{cells_of}
use Rattle.runs.specs.declared.outcome.StoredOutcome.{StoredOutcome}
use Rattle.runs.specs.Outcome.{Outcome, nothing, stored_outcome, outcome_of, range_of, held_range, outcome_in, keeps_outcome}

-- on paper
pub record State : Type 0 where
  pub tables : Tables
  pub outcome : Outcome
  pub filled : ℕ

-- as a planner holds it
pub record StoredState : Type 0 where
  pub tables : StoredTables
  pub outcome : StoredOutcome
  pub filled : ℕ

-- the state with these tables and nothing beside them
abbrev pub plain : Tables → State
plain t = record { tables = t; outcome = nothing; filled = 0 }

-- "A fresh planner has 0 states and stages, no rules, no loads and budget 0."
abbrev pub fresh : (places : ℕ) → State
fresh n = plain (on-paper.fresh n)

-- where it lies, and what lies there
abbrev pub stored_state : State → StoredState
stored_state s = record { tables = stored s.tables; outcome = stored_outcome s.tables.places s.outcome; filled = s.filled }

abbrev pub state_of : StoredState → State
state_of p = let t = tables_of p.tables in record { tables = t; outcome = outcome_of (length t.loads) p.outcome; filled = p.filled }

-- does a planner that is handed in keep the limits? "A stored figure out of range for the tables is refusal 1."; "A planner with more filled than it has
-- cells is refusal 1."
abbrev pub keeps : StoredState → Bool
keeps p = keeps_limits p.tables && keeps_outcome (held_range p.tables) p.outcome && leb p.filled (cells_of (tables_of p.tables))

-- a state within the limits
pub record Within (s : State) : Type 0 where
  pub tables : Limits s.tables
  pub outcome : outcome_in (range_of s.tables) s.outcome ≡ true
  pub filled : s.filled ≤ cells_of s.tables

-- a planner that holds one, with so many places for loads
pub record Kept (n : ℕ) (p : StoredState) : Type 0 where
  pub tables : Holds n p.tables
  pub outcome : (o : Outcome) × (outcome_in (range_of (tables_of p.tables)) o ≡ true) × (p.outcome ≡ stored_outcome (tables_of p.tables).places o)
  pub filled : p.filled ≤ cells_of (tables_of p.tables)

-- the arrays have the lengths that their types give them, those of the loads so many places
pub record Sized (n : ℕ) (p : StoredState) : Type 0 where
  pub tables : Lengths p.tables
  pub places : places_of p.tables.loads ≡ n
  pub states : length p.outcome.run.states ≡ n
  pub load_rules : length p.outcome.run.load_rules ≡ n
  pub row_rules : length p.outcome.run.row_rules ≡ n
