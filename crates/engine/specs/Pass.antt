-- The pass over the loads in number order: what is chosen for each, and what is known when some loads were passed.
-- It stands for "Equals are parted from the top down" of paper 01: a load's row is known when it is reached, since its parent and the
-- earlier children of its row have lower numbers. Assumes nothing.
use Rattle.std.specs.Prelude.{ℕ, zero, suc, ◌+◌, ◌-◌, ◌*◌, ◌≤◌, ◌<◌, ◌≡◌, List, Option, None, Some, IsSomeAnd, ◌⊎◌, length, get_or, set}
use Rattle.lists.specs.Tests.{pick}
use Rattle.tables.specs.declared.load.Load.{Load}
use Rattle.tables.specs.Limits.{max_loads, between}
use Rattle.meaning.specs.Forest.{tree}
use Rattle.meaning.specs.Best.{best_tree}
use Rattle.tables.specs.declared.entry.Entry.{Entry}
use Rattle.meaning.specs.Choice.{choose_tree, in_order, marks_of, assigned_by}
use Rattle.meaning.specs.Cell.{draw}
use Rattle.meaning.specs.Cells.{load_at, first_child, next_sibling}
use Rattle.cells.specs.declared.problem.Problem.{Problem}
use Rattle.cells.specs.declared.problem.Shape.{Shape}
use Rattle.cells.specs.Problem.{book_for, loads_for, items_for}
use Rattle.cells.specs.Outline.{Outlines}
use Rattle.cells.specs.Work.{cells_needed, Ready, FilledTo}
use Rattle.runs.specs.declared.outcome.StoredOutcome.{StoredOutcome}
use Rattle.runs.specs.declared.run.Run.{Run}
use Rattle.runs.specs.Outcome.{found, stored_outcome, stored_found}
use Rattle.engine.specs.declared.pass.Entrance.{Entrance}
use Rattle.engine.specs.declared.pass.Pass.{Pass}
use Rattle.engine.specs.declared.choice.Choice.{Choice}
use Rattle.runs.specs.Runs.{run_of, with_entry}
use Rattle.engine.specs.Parts.{load_best, load_rule, below_left, row_best, row_rule, share_best, BranchPart, RowPart}

-- the best cell of a problem at an allowance, that at its budget, and its entries
abbrev pub best_at : Problem → (c : ℕ) → ℕ
best_at p c = best_tree (book_for p) (tree (items_for p) (loads_for p)) c

abbrev pub best_for : Problem → ℕ
best_for p = best_at p p.tables.budget

abbrev pub entries_for : Problem → List Entry
entries_for p = choose_tree (book_for p) (tree (items_for p) (loads_for p)) p.tables.budget

-- the cells of a check: every load with 8 states and 8 stages, one allowance
abbrev pub check_cells : ℕ
check_cells = max_loads * 16

-- what a search answers
abbrev pub answer_to : Problem → StoredOutcome
answer_to p = stored_outcome max_loads (found (best_for p) (in_order (entries_for p) 1 p.tables.loads.count))

-- a problem with its outline, all of whose cells the work holds
pub record Complete (p : Problem) (sh : Shape) (o w : List ℕ) : Type 0 where
  pub outlined : Outlines p sh o
  pub ready : Ready sh w
  pub holds : FilledTo p w (cells_needed sh)
  pub some : 0 < p.tables.loads.count

-- what is chosen for load k in state q with allowance c
unfoldable pub load_choice : Problem → (k q c : ℕ) → Choice
load_choice p k q c = record {
  rule = suc (load_best (book_for p) (items_for p) (loads_for p) k q c).index;
  label = (load_rule (book_for p) (items_for p) (loads_for p) k q c).label;
  share = draw (items_for p k (load_at (loads_for p) k)) (load_rule (book_for p) (items_for p) (loads_for p) k q c).label;
  rest = first_child (loads_for p) k;
  stage = (load_rule (book_for p) (items_for p) (loads_for p) k q c).to;
  left = below_left (book_for p) (items_for p) (loads_for p) k q c;
}

-- what is chosen where the row from load k onward is entered at stage g with allowance c
unfoldable pub row_choice : Problem → (k g c : ℕ) → Choice
row_choice p k g c = record {
  rule = suc (row_best (book_for p) (items_for p) (loads_for p) k g c).index;
  label = (row_rule (book_for p) (items_for p) (loads_for p) k g c).label;
  share = (share_best (book_for p) (items_for p) (loads_for p) k g c).index;
  rest = next_sibling (loads_for p) k;
  stage = (row_rule (book_for p) (items_for p) (loads_for p) k g c).to;
  left = c - (share_best (book_for p) (items_for p) (loads_for p) k g c).index;
}

-- the row from load k onward is entered; load 0 stands for no load
unfoldable pub row_entered : List Entrance → (k : ℕ) → Entrance → List Entrance
row_entered rs zero e = rs
row_entered rs (suc j) e = set rs j e

-- where the row that follows a choice is entered
abbrev pub entrance_of : Choice → Entrance
entrance_of t = record { stage = t.stage; left = t.left }

abbrev pub entered : Pass → Choice → Pass
entered s t = record { run = s.run; rows = row_entered s.rows t.rest (entrance_of t) }

-- load k is passed, and the row below it is entered
unfoldable pub passed_load : Pass → (k row_rule q : ℕ) → Choice → Pass
passed_load s k r q t = record {
  run = with_entry s.run (record { number = k; mark = t.label; state = q; rule = t.rule; row = r });
  rows = row_entered s.rows t.rest (entrance_of t);
}

-- a branch of load k and a row from load k onward that are part of the chosen run, with an allowance and a stage in range
pub record BranchEntered (p : Problem) (k r q c : ℕ) : Type 0 where
  pub part : BranchPart (book_for p) (items_for p) (loads_for p) (marks_of (entries_for p)) (assigned_by (entries_for p)) k r q c
  pub fits : c ≤ p.tables.budget

pub record RowEntered (p : Problem) (k g c : ℕ) : Type 0 where
  pub part : RowPart (book_for p) (items_for p) (loads_for p) (marks_of (entries_for p)) (assigned_by (entries_for p)) k g c
  pub low : 0 < g
  pub high : g ≤ p.tables.book.stages
  pub fits : c ≤ p.tables.budget

-- the row from load k onward is entered when load j is passed (the root has no later row)
abbrev pub Opens : List Load → (j k : ℕ) → Type 0
Opens ls j k = (first_child ls j ≡ k) ⊎ ((1 < j) × (next_sibling ls j ≡ k))

-- where the row from load i + 1 onward is entered, as the rows say
abbrev pub no_entrance : Entrance
no_entrance = record { stage = 0; left = 0 }

abbrev pub entrance_at : List Entrance → ℕ → Entrance
entrance_at rs i = get_or rs i no_entrance

-- it is part of the chosen run
abbrev pub Known : Problem → List Entrance → ℕ → Type 0
Known p rs i = RowEntered p (suc i) (entrance_at rs i).stage (entrance_at rs i).left

-- the first n loads were passed: the run has them, and the rows that they lead to are known
pub record Passed (p : Problem) (n : ℕ) (s : Pass) : Type 0 where
  pub run : s.run ≡ run_of max_loads (in_order (entries_for p) 1 n)
  pub full : length s.rows ≡ max_loads
  pub led : (i j : ℕ) → n ≤ i → i < p.tables.loads.count → 0 < j → j ≤ n → Opens (loads_for p) j (suc i) → Known p s.rows i

-- ---- of the outline alone
-- it is the outline of some problem with a load or more, and the work has its cells, whatever these hold
pub record Readable (sh : Shape) (o w : List ℕ) : Type 0 where
  pub problem : Problem
  pub outlined : Outlines problem sh o
  pub ready : Ready sh w
  pub some : 0 < problem.tables.loads.count

-- a number from 1 to high, less 1
abbrev pub within : (x high : ℕ) → Option ℕ
within x h = pick (between 1 h x) (Some (x - 1)) None

-- whatever problem that is, and if the cells hold what they are to hold, there is a pass with one load more
abbrev pub PassedOn : Shape → (o w : List ℕ) → ℕ → Pass → Option Pass → Type 0
PassedOn sh o w n s r = (p : Problem) → Complete p sh o w → Passed p n s → 0 < n → n < p.tables.loads.count → IsSomeAnd r (Passed p (n + 1))

-- and r is the answer to it
abbrev pub Traced : Shape → (o w : List ℕ) → Option Run → Type 0
Traced sh o w r = (p : Problem) → Complete p sh o w → stored_found r ≡ answer_to p
