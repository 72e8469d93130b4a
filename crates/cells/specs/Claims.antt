-- What request Seven of paper 02 promises of a row: "Two planners that agree on book, marks and rules, on a row's loads and on all loads below
-- these get the same best for that row, from each stage and at each allowance within both budgets, whatever else they hold."
-- It is said of the cells that `fill` leaves, for the tables that the two planners hold. Assumes nothing.
use Rattle.std.specs.Prelude.{ℕ, ◌+◌, ◌-◌, ◌≤◌, ◌<◌, ◌≡◌, List, get_or}
use Rattle.tables.specs.declared.tables.StoredTables.{StoredTables}
use Rattle.tables.specs.Stored.{book_of, loads_of}
use Rattle.meaning.specs.Agree.{AgreeOn}
use Rattle.cells.specs.Problem.{plan_problem, shape_of}
use Rattle.cells.specs.Outline.{Outlines}
use Rattle.cells.specs.Work.{place_of, cells_needed}
use Rattle.cells.specs.Stretch.{FilledBy}

-- "agree on book, marks and rules, on a row's loads and on all loads below these": the row from load k onward
pub record Agree (s s' : StoredTables) (k : ℕ) : Type 0 where
  pub book : book_of s.book ≡ book_of s'.book
  pub loads : AgreeOn (loads_of s.loads) (loads_of s'.loads) k

-- v is what `fill` leaves of some work, by the outline of the tables' plan, when it has filled all its cells
pub record Left (s : StoredTables) (v : List ℕ) : Type 0 where
  pub outline : List ℕ
  pub outlined : Outlines (plan_problem s) (shape_of (plan_problem s)) outline
  pub before : List ℕ
  pub filled : FilledBy (shape_of (plan_problem s)) outline before v 0 (cells_needed (shape_of (plan_problem s)))

-- the cell of the row from load k onward, from stage g and at allowance c
abbrev pub row_cell_in : StoredTables → (v : List ℕ) → (k g c : ℕ) → ℕ
row_cell_in s v k g c = get_or v (place_of (shape_of (plan_problem s)) k (s.book.states + (g - 1)) + c) 0

-- "the same best for that row, from each stage and at each allowance within both budgets"
abbrev pub SameRow : (s s' : StoredTables) → (v v' : List ℕ) → (k : ℕ) → Type 0
SameRow s s' v v' k = (g c : ℕ) → 0 < g → g ≤ s.book.stages → c ≤ s.budget → c ≤ s'.budget → row_cell_in s v k g c ≡ row_cell_in s' v' k g c

abbrev pub RowsAgree : Type 0
RowsAgree = (s s' : StoredTables) (k : ℕ) → 0 < k → k ≤ s.loads.count → Agree s s' k → (v v' : List ℕ) → Left s v → Left s' v' → SameRow s s' v v' k
