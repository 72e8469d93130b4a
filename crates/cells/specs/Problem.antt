-- A problem: the tables of a search, with what counts of each load. Planning and checking a set are one search of two problems.
-- It stands for "The plan has the greatest worth of all allowed sets whose power is within the budget" and for "For a checked set the run
-- takes the lowest .. that can be completed to that set" of paper 01. Assumes nothing.
use Rattle.std.specs.Prelude.{ℕ, ◌≤◌, ◌<◌, ◌≡◌, Bool, ◌&&◌, ◌||◌, Option, None, Some, List, eqb, length, get_or}
use Rattle.marks.specs.declared.LoadSet.{LoadSet}
use Rattle.marks.specs.Sets.{mark_in}
use Rattle.tables.specs.declared.load.Load.{Load}
use Rattle.tables.specs.declared.load.LoadList.{LoadList}
use Rattle.tables.specs.declared.rule.TransitionList.{TransitionList}
use Rattle.tables.specs.declared.tables.StoredTables.{StoredTables}
use Rattle.tables.specs.Tables.{Book, no_load, no_rule}
use Rattle.tables.specs.Limits.{max_loads, max_rules, max_states, max_worth}
use Rattle.tables.specs.Stored.{book_of, loads_of}
use Rattle.meaning.specs.Forest.{Item, planned, checked, IsTree}
use Rattle.meaning.specs.Cell.{power_limit}
use Rattle.cells.specs.declared.problem.Problem.{Problem}
use Rattle.cells.specs.declared.problem.Shape.{Shape}
use Rattle.cells.specs.declared.problem.StoredItem.{StoredItem}

-- the problem of a plan: the tables as they are
abbrev pub plan_problem : StoredTables → Problem
plan_problem s = record { tables = s; set = None }

-- the problem of a checked set: no allowance, and no marks but its own
abbrev pub check_problem : StoredTables → LoadSet → Problem
check_problem s σ = record { tables = record { book = s.book; loads = s.loads; budget = 0 }; set = Some σ }

-- the book and the loads on paper
abbrev pub book_for : Problem → Book
book_for p = book_of p.tables.book

abbrev pub loads_for : Problem → List Load
loads_for p = loads_of p.tables.loads

-- what counts of each load, by its number
abbrev pub items_if : Option LoadSet → ℕ → Load → Item
items_if None = planned
items_if (Some σ) = checked (mark_in σ)

abbrev pub items_for : Problem → ℕ → Load → Item
items_for p = items_if p.set

-- what counts of a load, as the code holds it: any load rule of its kind serves, or those with the load's mark
abbrev pub any_mark : ℕ
any_mark = 2

abbrev pub serves_if : (own_kind own_mark kind mark : ℕ) → Bool
serves_if t m k l = eqb k t && (eqb m any_mark || eqb l m)

abbrev pub item_of : StoredItem → Item
item_of i = record { power = i.power; worth = i.worth; kind = i.kind; serves = λ t. serves_if i.kind i.mark t.kind t.label }

abbrev pub shape_of : Problem → Shape
shape_of p = record {
  loads = p.tables.loads.count;
  states = p.tables.book.states;
  stages = p.tables.book.stages;
  budget = p.tables.budget;
  starts = p.tables.book.starts;
  ends = p.tables.book.ends;
}

-- the numbers of a shape are in range
pub record Sane (sh : Shape) : Type 0 where
  pub loads : sh.loads ≤ max_loads
  pub states : sh.states ≤ max_states
  pub stages : sh.stages ≤ max_states
  pub budget : sh.budget < power_limit

-- the numbers of rules of one sort are in range: those of the labels are from low to high
pub record RulesIn (l : TransitionList) (low high stages : ℕ) : Type 0 where
  pub few : l.count ≤ max_rules
  pub full : length l.items ≡ max_rules
  pub label : (j : ℕ) → j < l.count → (low ≤ (get_or l.items j no_rule).label) × ((get_or l.items j no_rule).label ≤ high)
  pub to : (j : ℕ) → j < l.count → (0 < (get_or l.items j no_rule).to) × ((get_or l.items j no_rule).to ≤ stages)

-- the loads are a tree, and their figures are in range
pub record LoadsIn (l : LoadList) : Type 0 where
  pub full : length l.items ≡ max_loads
  pub ordered : IsTree (loads_of l)
  pub parents : (j : ℕ) → (get_or (loads_of l) j no_load).parent ≤ j
  pub powers : (j : ℕ) → (get_or (loads_of l) j no_load).power < power_limit
  pub worths : (j : ℕ) → (get_or (loads_of l) j no_load).worth ≤ max_worth

-- the tables keep the limits of "Loads and book", as far as the search needs them
pub record Lawful (p : Problem) : Type 0 where
  pub sane : Sane (shape_of p)
  pub staged : 0 < p.tables.book.states → 0 < p.tables.book.stages
  pub loads : LoadsIn p.tables.loads
  pub rules : RulesIn p.tables.book.load_rules 0 1 p.tables.book.stages
  pub rows : RulesIn p.tables.book.row_rules 1 p.tables.book.states p.tables.book.stages
