-- How each cell follows from those of higher loads, and the plan from the cells.
-- Assumes nothing.
use Prim.Native.Nat.{ℕ, suc, ◌-◌}
use mathlib.Core.Path.{◌≡◌, refl}
use mathlib.Core.List.{List, ◌∷◌, ◌++◌}
use lib.ListN.{get_or}
use Rattle.lists.specs.Argmax.{guard, argmax}
use Rattle.tables.specs.Tables.{Book, no_load}
use Rattle.tables.specs.declared.load.Load.{Load}
use Rattle.meaning.specs.Runs.{is_start, is_end, rule_at}
use Rattle.meaning.specs.Forest.{Item, tree}
use Rattle.meaning.specs.Cell.{empty}
use Rattle.meaning.specs.Best.{best, shares, row_rule_for, row_cell, best_tree}
use Rattle.meaning.specs.Choice.{choose, choose_tree}
use Rattle.meaning.specs.Cells.{next_sibling, row_cells, branch_cells, row_entries, branch_entries}
use Rattle.meaning.proofs.Tree.{row-after}

module _ (b : Book) (item : ℕ → Load → Item) (ls : List Load) where
  pub row-end : (g c : ℕ) → row_cells b item ls 0 g c ≡ guard (is_end b g) empty
  unfolding row_cells best
  row-end g c = refl

  pub row-cell : (j g c : ℕ)
      → row_cells b item ls (suc j) g c ≡ row_cell b (branch_cells b item ls (suc j)) (row_cells b item ls (next_sibling ls (suc j))) g c
  unfolding row_cells branch_cells best
  row-cell j g c = rw (row-after item ls (suc j) (suc j), row-after item ls (get_or ls j no_load).parent (suc j))

  pub row-entries : (j g c : ℕ) → row_entries b item ls (suc j) g c
      ≡ (let branch = branch_cells b item ls (suc j) in
      let later = row_cells b item ls (next_sibling ls (suc j)) in
      let n = (row_rule_for b branch later g c).index in
      let r = rule_at b.row_rules n in
      let a = (shares (branch r.label) (later r.to) c).index in
      branch_entries b item ls (suc j) (suc n) r.label a ++ row_entries b item ls (next_sibling ls (suc j)) r.to (c - a))
  unfolding row_entries branch_entries row_cells branch_cells choose
  row-entries j g c = rw (row-after item ls (suc j) (suc j), row-after item ls (get_or ls j no_load).parent (suc j))

-- the root is load 1
module _ (b : Book) (item : ℕ → Load → Item) (l : Load) (ls : List Load) (c : ℕ) where
  pub root-cell : best_tree b (tree item (l ∷ ls)) c
      ≡ (argmax (λ s. guard (is_start b (suc s)) (branch_cells b item (l ∷ ls) 1 (suc s) c)) b.states).value
  unfolding best_tree tree row_cells branch_cells
  root-cell = rw (row-after item (l ∷ ls) 1 1)

  pub root-entries : choose_tree b (tree item (l ∷ ls)) c
      ≡ branch_entries b item (l ∷ ls) 1 0 (suc (argmax (λ s. guard (is_start b (suc s)) (branch_cells b item (l ∷ ls) 1 (suc s) c)) b.states).index) c
  unfolding choose_tree tree row_cells branch_cells branch_entries row_entries
  root-entries = rw (row-after item (l ∷ ls) 1 1)
