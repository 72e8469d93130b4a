-- Parts of the chosen run: what is chosen for a branch and for a row, wherever in the tree they are entered, and when they are part of the
-- run that a set σ and an assignment ρ describe.
-- They stand for "Which plan among equals" of paper 01, one load at a time. Assumes nothing.
use Rattle.std.specs.Prelude.{ℕ, suc, ◌-◌, ◌<◌, List}
use Rattle.lists.specs.Argmax.{guard, Greatest, argmax}
use Rattle.tables.specs.declared.rule.Transition.{Transition}
use Rattle.tables.specs.declared.load.Load.{Load}
use Rattle.tables.specs.Tables.{Book}
use Rattle.meaning.specs.Runs.{is_start, rule_at, Assigned}
use Rattle.meaning.specs.Forest.{Item}
use Rattle.meaning.specs.Cell.{draw}
use Rattle.meaning.specs.Best.{shares, load_rule_for, row_rule_for}
use Rattle.meaning.specs.Cells.{load_at, first_child, next_sibling, row_cells, branch_cells, row_entries, branch_entries}
use Rattle.meaning.specs.Choice.{Follows}

module _ (b : Book) (item : ℕ → Load → Item) (ls : List Load) where
  -- the root's state, less 1: "the lowest start state that still reaches the greatest worth"
  abbrev pub start_best : ℕ → Greatest
  start_best c = argmax (λ s. guard (is_start b (suc s)) (branch_cells b item ls 1 (suc s) c)) b.states

  -- a load's rule in state q: "the lowest load rule that still reaches the best for its allowance"
  abbrev pub load_best : (k q c : ℕ) → Greatest
  load_best k q c = load_rule_for b (item k (load_at ls k)) (row_cells b item ls (first_child ls k)) q c

  abbrev pub load_rule : (k q c : ℕ) → Transition
  load_rule k q c = rule_at b.load_rules (load_best k q c).index

  -- "its row gets the allowance less its power if on"
  abbrev pub below_left : (k q c : ℕ) → ℕ
  below_left k q c = c - draw (item k (load_at ls k)) (load_rule k q c).label

  -- the rule of the row from load k onward at stage g: "the lowest row rule that still reaches the best"
  abbrev pub row_best : (k g c : ℕ) → Greatest
  row_best k g c = row_rule_for b (branch_cells b item ls k) (row_cells b item ls (next_sibling ls k)) g c

  abbrev pub row_rule : (k g c : ℕ) → Transition
  row_rule k g c = rule_at b.row_rules (row_best k g c).index

  -- "then the smallest allowance for its own branch that does"
  abbrev pub share_best : (k g c : ℕ) → Greatest
  share_best k g c = shares (branch_cells b item ls k (row_rule k g c).label) (row_cells b item ls (next_sibling ls k) (row_rule k g c).to) c

  -- the branch of load k in state q, entered by row rule r with allowance c, is part of the run
  pub record BranchPart (σ : ℕ → ℕ) (ρ : ℕ → Assigned) (k r q c : ℕ) : Type 0 where
    pub possible : 0 < branch_cells b item ls k q c
    pub follows : Follows σ ρ (branch_entries b item ls k r q c)

  -- so is the row from load k onward, entered at stage g with allowance c
  pub record RowPart (σ : ℕ → ℕ) (ρ : ℕ → Assigned) (k g c : ℕ) : Type 0 where
    pub possible : 0 < row_cells b item ls k g c
    pub follows : Follows σ ρ (row_entries b item ls k g c)
