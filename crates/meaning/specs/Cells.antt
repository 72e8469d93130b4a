-- The cells that a plan needs: for each load, state and allowance the best of its branch, and for each load, stage and allowance the best
-- of the row from that load onward, with how each follows from those of higher loads.
-- They stand for "A plan needs loads × (S + G) × (budget + 1) cells" of paper 01, and for the order and the values that request Eleven of paper 02 gives
-- them. Load 0 stands for no load: the end of a row.
-- Assumes nothing.
use Rattle.std.specs.Prelude.{ℕ, zero, suc, ◌+◌, ◌-◌, ◌*◌, ◌≤◌, ◌<◌, ◌≡◌, cond, List, ltb, length, get_or}
use Rattle.tables.specs.declared.load.Load.{Load}
use Rattle.tables.specs.Tables.{Book, Tables, no_load}
use Rattle.meaning.specs.Forest.{Item, planned, after, row_at}
use Rattle.meaning.specs.Best.{best, branch_cell}
use Rattle.tables.specs.declared.entry.Entry.{Entry}
use Rattle.meaning.specs.Choice.{choose, choose_branch}

-- how many a plan needs
unfoldable pub cells_of : Tables → ℕ
cells_of t = length t.loads * (t.book.states + t.book.stages) * (t.budget + 1)

-- load k, numbered from 1
abbrev pub load_at : List Load → ℕ → Load
load_at ls zero = no_load
load_at ls (suc j) = get_or ls j no_load

-- the first child of load k, and the next child of its parent; 0 for none
abbrev pub first_child : List Load → ℕ → ℕ
first_child ls k = after ls k k

abbrev pub next_sibling : List Load → ℕ → ℕ
next_sibling ls k = after ls k (load_at ls k).parent

module _ (b : Book) (item : ℕ → Load → Item) (ls : List Load) where
  -- by stage and allowance
  unfoldable pub row_cells : ℕ → ℕ → ℕ → ℕ
  row_cells k = best b (row_at item ls k)

  -- by state and allowance
  unfoldable pub branch_cells : ℕ → ℕ → ℕ → ℕ
  branch_cells k = branch_cell b (item k (load_at ls k)) (row_cells (first_child ls k))

  -- the entries of the row from load k onward, and of load k's branch
  unfoldable pub row_entries : ℕ → ℕ → ℕ → List Entry
  row_entries k = choose b (row_at item ls k)

  unfoldable pub branch_entries : ℕ → (row_rule q c : ℕ) → List Entry
  branch_entries k = choose_branch b k (item k (load_at ls k)) (row_cells (first_child ls k)) (row_entries (first_child ls k))

-- ---- in the work
-- "The order is loads from last to first, states then stages, allowances upward; so they stand in the work from its start.": where the cells of load k and
-- state or stage x begin, x counted from 0, states first
unfoldable pub place_in : Tables → (k x : ℕ) → ℕ
place_in t k x = ((length t.loads - k) * (t.book.states + t.book.stages) + x) * (t.budget + 1)

-- "There is a cell for each load, state and allowance, and one for each load, stage and allowance, the latter for the row from that load onward": what it
-- is to hold
unfoldable pub cell_in : Tables → (k x a : ℕ) → ℕ
cell_in t k x a =
    let s = t.book.states in
    cond (ltb x s) (branch_cells t.book planned t.loads k (suc x) a) (row_cells t.book planned t.loads k (suc (x - s)) a)

-- the first n cells of the work hold what they are to hold
pub record Holding (t : Tables) (w : List ℕ) (n : ℕ) : Type 0 where
  pub at : (k x a : ℕ) → 0 < k → k ≤ length t.loads → x < t.book.states + t.book.stages → a ≤ t.budget
      → place_in t k x + a < n → get_or w (place_in t k x + a) 0 ≡ cell_in t k x a
