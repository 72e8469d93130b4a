-- What the cells of a plan are the best of: a load's branch in a state, or the row from a load onward at a stage, each within an allowance.
-- It stands for request Eleven of paper 02: "There is a cell for each load, state and allowance, and one for each load, stage and allowance, the
-- latter for the row from that load onward (load 1 is a row of itself)", and "the filled cells hold .. the best of their branch or row, as worth ×
-- 512 + 512 − power, or 0 for none". Best is "of greatest worth, then of least power" (request Four). Nothing here says how a best is found.
-- Assumes nothing.
use Rattle.std.specs.Prelude.{ℕ, suc, ◌+◌, ◌-◌, ◌≤◌, ◌<◌, ◌≡◌, List, ◌↔◌, length, get_or}
use Rattle.tables.specs.Tables.{Tables}
use Rattle.meaning.specs.Forest.{Forest, nil, node, planned, row_after, row_at}
use Rattle.meaning.specs.Runs.{Assigned, BranchRun, Run}
use Rattle.meaning.specs.Sets.{tree_of}
use Rattle.meaning.specs.Cell.{cell, drawn, gained}
use Rattle.meaning.specs.Cells.{cells_of, load_at, row_cells, branch_cells, place_in, cell_in, Holding}

-- ---- branch and row
-- a part of the tree: its loads, and which sets and assignments are a run of it
pub record Part : Type 1 where
  pub loads : Forest
  pub Runs : (ℕ → ℕ) → (ℕ → Assigned) → Type 0

-- load k's branch: the load, in state q, and all loads below it
abbrev pub branch_of : Tables → (k q : ℕ) → Part
branch_of t k q =
    let i = planned k (load_at t.loads k) in
    let below = row_after planned t.loads k k in
    record {
      loads = node k i below nil;
      Runs = λ σ ρ. ((ρ k).state ≡ q) × BranchRun t.book (σ k) (ρ k).load_rule i (Run t.book σ ρ below) q;
    }

-- "the row from that load onward", its row rules from stage g: load k and the later children of its parent, each with all loads below it
abbrev pub row_of : Tables → (k g : ℕ) → Part
row_of t k g = let f = row_at planned t.loads k in record { loads = f; Runs = λ σ ρ. Run t.book σ ρ f g }

-- ---- the best of a part
-- a set that has a run of the part, and whose power over it is at most the allowance
pub record Within (p : Part) (c : ℕ) (σ : ℕ → ℕ) : Type 0 where
  pub allowed : (ρ : ℕ → Assigned) × p.Runs σ ρ
  pub fits : drawn σ p.loads ≤ c

-- a best of these: none is worth more, and none of equal worth draws less
pub record BestSet (p : Part) (c : ℕ) (σ : ℕ → ℕ) : Type 0 where
  pub within : Within p c σ
  pub greatest : (τ : ℕ → ℕ) → Within p c τ → gained τ p.loads ≤ gained σ p.loads
  pub coolest : (τ : ℕ → ℕ) → Within p c τ → gained τ p.loads ≡ gained σ p.loads → drawn σ p.loads ≤ drawn τ p.loads

-- v is "the best .., as worth × 512 + 512 − power, or 0 for none": there is a best set exactly where v is not 0, and v is the cell of each
pub record BestOf (p : Part) (c v : ℕ) : Type 0 where
  pub none : (v ≡ 0) ↔ ((σ : ℕ → ℕ) → Within p c σ → ⊥)
  pub some : 0 < v → (σ : ℕ → ℕ) × BestSet p c σ
  pub value : (σ : ℕ → ℕ) → BestSet p c σ → v ≡ cell (drawn σ p.loads) (gained σ p.loads)

-- ---- the cells
-- "The order is loads from last to first, states then stages, allowances upward; so they stand in the work from its start."
pub record InOrder (t : Tables) : Type 0 where
  -- the first cell is that of the last load, of its first state and allowance 0
  pub first : place_in t (length t.loads) 0 ≡ 0
  -- the allowances of a state or stage stand together, and after them come those of the next
  pub next : (k x : ℕ) → place_in t k (suc x) ≡ place_in t k x + (t.budget + 1)
  -- after the last stage of a load comes the load before it
  pub before : (k : ℕ) → k < length t.loads → place_in t k 0 ≡ place_in t (suc k) (t.book.states + t.book.stages)
  -- and after the last stage of load 1 no cell is left
  pub last : 0 < length t.loads → place_in t 1 (t.book.states + t.book.stages) ≡ cells_of t

-- v is what the cell of load k, of state or stage x and of allowance c is to hold; x counts from 0, states first
pub record CellBest (t : Tables) (k x c v : ℕ) : Type 0 where
  pub branch : x < t.book.states → BestOf (branch_of t k (suc x)) c v
  pub row : t.book.states ≤ x → BestOf (row_of t k (suc (x - t.book.states))) c v

-- "the filled cells hold .. the best of their branch or row": the first n cells of the work
pub record BestHeld (t : Tables) (w : List ℕ) (n : ℕ) : Type 0 where
  pub at : (k x a : ℕ) → 0 < k → k ≤ length t.loads → x < t.book.states + t.book.stages → a ≤ t.budget
      → place_in t k x + a < n → CellBest t k x a (get_or w (place_in t k x + a) 0)

pub record CellsBest (t : Tables) : Type 0 where
  -- "a cell for each load, state and allowance"
  pub branches : (k q c : ℕ) → 0 < k → k ≤ length t.loads → c ≤ t.budget → BestOf (branch_of t k q) c (branch_cells t.book planned t.loads k q c)
  -- "and one for each load, stage and allowance, the latter for the row from that load onward"
  pub rows : (k g c : ℕ) → 0 < k → k ≤ length t.loads → c ≤ t.budget → BestOf (row_of t k g) c (row_cells t.book planned t.loads k g c)
  -- "(load 1 is a row of itself)"
  pub root : 0 < length t.loads → row_at planned t.loads 1 ≡ tree_of t
  -- so each cell is the best of its branch or row, and a work that holds the cells holds these
  pub cells : (k x c : ℕ) → 0 < k → k ≤ length t.loads → c ≤ t.budget → CellBest t k x c (cell_in t k x c)
  pub held : (w : List ℕ) (n : ℕ) → Holding t w n → BestHeld t w n
