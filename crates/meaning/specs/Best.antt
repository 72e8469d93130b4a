-- The best cell of a branch and of a row, by recursion on the forest.
-- It stands for "The plan has the greatest worth of all allowed sets whose power is within the budget" of paper 01, for "of greatest worth,
-- then of least power" of request Four of paper 02, and for document 000's recursion, with an allowance for each branch. Assumes nothing.
use Rattle.std.specs.Prelude.{ℕ, suc, ◌-◌, ◌&&◌, List, eqb, leb, length}
use Rattle.lists.specs.Argmax.{guard, Greatest, argmax}
use Rattle.tables.specs.declared.rule.Transition.{Transition}
use Rattle.tables.specs.Tables.{Book, Tables}
use Rattle.meaning.specs.Forest.{Item, Forest, nil, node, checked, tree}
use Rattle.meaning.specs.Runs.{is_start, is_end, rule_at}
use Rattle.meaning.specs.Sets.{tree_of}
use Rattle.meaning.specs.Cell.{empty, ◌⊕◌, draw, score}

-- the best of the rules that begin at x, by what each reaches
abbrev pub best_rule : List Transition → ℕ → (Transition → ℕ) → Greatest
best_rule ts x reach = argmax (λ j. guard (eqb (rule_at ts j).from x) (reach (rule_at ts j))) (length ts)

-- what a load rule reaches within an allowance, the cells of the row below given by stage and allowance:
-- "its row gets the allowance less its power if on"
abbrev pub load_reach : Item → (below : ℕ → ℕ → ℕ) → ℕ → Transition → ℕ
load_reach i below c t =
    guard (i.serves t && leb (draw i t.label) c) (score i t.label ⊕ below t.to (c - draw i t.label))

-- the best allowance for a branch, the cells of the branch and of the later children given: "what is left passes to the later children"
abbrev pub shares : (branch later : ℕ → ℕ) → ℕ → Greatest
shares branch later c = argmax (λ a. branch a ⊕ later (c - a)) (suc c)

-- what a row rule reaches
abbrev pub row_reach : (branch later : ℕ → ℕ → ℕ) → ℕ → Transition → ℕ
row_reach branch later c r = (shares (branch r.label) (later r.to) c).value

module _ (b : Book) where
  abbrev pub load_rule_for : Item → (below : ℕ → ℕ → ℕ) → (q c : ℕ) → Greatest
  load_rule_for i below q c = best_rule b.load_rules q (load_reach i below c)

  abbrev pub row_rule_for : (branch later : ℕ → ℕ → ℕ) → (g c : ℕ) → Greatest
  row_rule_for branch later g c = best_rule b.row_rules g (row_reach branch later c)

  abbrev pub branch_cell : Item → (below : ℕ → ℕ → ℕ) → ℕ → ℕ → ℕ
  branch_cell i below q c = (load_rule_for i below q c).value

  abbrev pub row_cell : (branch later : ℕ → ℕ → ℕ) → ℕ → ℕ → ℕ
  row_cell branch later g c = (row_rule_for branch later g c).value

  -- the best of a row at a stage, within an allowance
  unfoldable pub best : Forest → ℕ → ℕ → ℕ
  best nil g c = guard (is_end b g) empty
  best (node k i below later) g c = row_cell (branch_cell i (best below)) (best later) g c

  -- the best of a start state
  abbrev pub start_for : Item → (below : ℕ → ℕ → ℕ) → ℕ → Greatest
  start_for i below c = argmax (λ s. guard (is_start b (suc s)) (branch_cell i below (suc s) c)) b.states

  -- the best of a whole tree, 0 for none
  unfoldable pub best_tree : Forest → ℕ → ℕ
  best_tree nil c = 0
  best_tree (node k i below later) c = (start_for i (best below) c).value

-- the cell of the plan, 0 for none: "with the whole budget as allowance"
unfoldable pub best_plan : Tables → ℕ
best_plan t = best_tree t.book (tree_of t) t.budget

-- the cell of a checked set, 0 for none
unfoldable pub best_check : Tables → (ℕ → ℕ) → ℕ
best_check t σ = best_tree t.book (tree (checked σ) t.loads) 0
