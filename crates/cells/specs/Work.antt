-- The cells in the lent work: how many there are, where each stands, and what each is to hold.
-- It stands for "A plan needs loads × (S + G) × (budget + 1) cells at the start of work" of paper 01, in the order loads from last to first,
-- states then stages, allowances upward. Assumes nothing.
use Rattle.std.specs.Prelude.{ℕ, zero, suc, ◌+◌, ◌-◌, ◌*◌, ◌%◌, ◌≤◌, ◌<◌, ◌≡◌, cond, List, ltb, length, get_or}
use Rattle.lists.specs.Argmax.{guard}
use Rattle.marks.specs.Bits.{has_mark}
use Rattle.meaning.specs.Cell.{empty}
use Rattle.meaning.specs.Cells.{branch_cells, row_cells}
use Rattle.cells.specs.declared.problem.Problem.{Problem}
use Rattle.cells.specs.declared.problem.Shape.{Shape}
use Rattle.cells.specs.Problem.{book_for, loads_for, items_for, shape_of, Sane}

-- where the cells of load k and state or stage x begin, x counted from 0, states first
unfoldable pub place_of : Shape → (k x : ℕ) → ℕ
place_of sh k x = ((sh.loads - k) * (sh.states + sh.stages) + x) * (sh.budget + 1)

-- "loads × (S + G) × (budget + 1)"
abbrev pub cells_needed : Shape → ℕ
cells_needed sh = sh.loads * (sh.states + sh.stages) * (sh.budget + 1)

-- the work has the cells of a shape in range
pub record Ready (sh : Shape) (w : List ℕ) : Type 0 where
  pub sane : Sane sh
  pub room : cells_needed sh ≤ length w

-- what a cell of the work says, whatever it holds: two such fit 32 bits together, and every cell of a search is one
abbrev pub cell_limit : ℕ
cell_limit = 1073741824

abbrev pub held_in : ℕ → ℕ
held_in x = x % cell_limit

-- what cells say, by allowance
abbrev pub cells_in : List ℕ → ℕ → ℕ
cells_in s c = held_in (get_or s c 0)

-- the cells from a place on, by allowance
abbrev pub cells_from : List ℕ → (at : ℕ) → ℕ → ℕ
cells_from w at c = held_in (get_or w (at + c) 0)

-- f and g say the same below n
abbrev pub Agrees : (f g : ℕ → ℕ) → ℕ → Type 0
Agrees f g n = (c : ℕ) → c < n → f c ≡ g c

-- the branch of load k in state q, by allowance, as the work holds it
abbrev pub held_branch : Shape → List ℕ → (k q : ℕ) → ℕ → ℕ
held_branch sh w k q = cells_from w (place_of sh k (q - 1))

-- the row from load k onward at stage g; load 0 stands for no load: the end of a row
abbrev pub held_row : Shape → List ℕ → (k g : ℕ) → ℕ → ℕ
held_row sh w zero g c = guard (has_mark sh.ends.0 g) empty
held_row sh w (suc j) g c = cells_from w (place_of sh (suc j) (sh.states + (g - 1))) c

-- the best of a branch and of a row, by load, state or stage, and allowance
abbrev pub branch_for : Problem → ℕ → ℕ → ℕ → ℕ
branch_for p = branch_cells (book_for p) (items_for p) (loads_for p)

abbrev pub row_for : Problem → ℕ → ℕ → ℕ → ℕ
row_for p = row_cells (book_for p) (items_for p) (loads_for p)

-- what the cell of load k, state or stage x, and allowance a is to hold
abbrev pub cell_of : Problem → (k x a : ℕ) → ℕ
cell_of p k x a =
    cond (ltb x p.tables.book.states) (branch_for p k (suc x) a) (row_for p k (suc (x - p.tables.book.states)) a)

-- the cells below i hold what they are to hold
pub record FilledTo (p : Problem) (w : List ℕ) (i : ℕ) : Type 0 where
  pub at : (k x a : ℕ) → 0 < k → k ≤ (shape_of p).loads → x < (shape_of p).states + (shape_of p).stages → a ≤ (shape_of p).budget
      → place_of (shape_of p) k x + a < i → get_or w (place_of (shape_of p) k x + a) 0 ≡ cell_of p k x a

-- v is the work w with the cells from .. to filled
pub record Filled (p : Problem) (w v : List ℕ) (from to : ℕ) : Type 0 where
  pub below : (i : ℕ) → i < from → get_or v i 0 ≡ get_or w i 0
  pub above : (i : ℕ) → to ≤ i → get_or v i 0 ≡ get_or w i 0
  pub holds : FilledTo p w from → FilledTo p v to
