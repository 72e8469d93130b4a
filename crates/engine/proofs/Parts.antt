-- The root's branch is part of the chosen run; of a branch that is part of it the row below is; of a row its first branch and the later
-- row are; and what a branch shows is what the run has for its load. Assumes nothing.
use Prim.Native.Nat.{ℕ, zero, suc, ◌-◌, ◌≤◌, ◌<◌}
use mathlib.Core.Path.{◌≡◌, sym, ◌∙◌, subst}
use mathlib.Core.Bool.{◌&&◌}
use mathlib.Core.List.{List, [], ◌∷◌}
use native.Mathlib.Omega.{arith}
use lib.Dec.{leb, leb→le}
use lib.ListN.{length}
use Rattle.lists.specs.Argmax.{guard}
use Rattle.lists.proofs.Argmax.{argmax-found}
use Rattle.tables.specs.declared.load.Load.{Load}
use Rattle.tables.specs.Tables.{Book}
use Rattle.meaning.specs.Runs.{is_start, Assigned}
use Rattle.meaning.specs.Forest.{Item, tree, IsTree}
use Rattle.meaning.specs.Cell.{◌⊕◌, draw, score}
use Rattle.meaning.specs.Best.{load_reach, row_reach, best_tree}
use Rattle.tables.specs.declared.entry.Entry.{Entry}
use Rattle.meaning.specs.Choice.{choose_tree, marks_of, assigned_by, Follows}
use Rattle.meaning.specs.Cells.{load_at, first_child, next_sibling, row_cells, branch_cells, row_entries, branch_entries}
use Rattle.meaning.proofs.Cell.{⊕-pos}
use Rattle.meaning.proofs.Cells.{row-cell, row-entries, root-cell, root-entries}
use Rattle.meaning.proofs.Entries.{tree-follows}
use Rattle.meaning.proofs.Optimal.{and-elim, guard-pos, rule_found, follows-split}
use Rattle.engine.specs.Parts.{start_best, load_best, load_rule, below_left, row_best, row_rule, share_best, BranchPart, RowPart}

-- what is chosen where the cell is not 0: a rule that there is, and cells that are not 0
module _ (b : Book) (item : ℕ → Load → Item) (ls : List Load) where
  pub load-reached : (k q c : ℕ) → 0 < branch_cells b item ls k q c
      → ((load_best b item ls k q c).index < length b.load_rules) × (draw (item k (load_at ls k)) (load_rule b item ls k q c).label ≤ c)
      × (0 < row_cells b item ls (first_child ls k) (load_rule b item ls k q c).to (below_left b item ls k q c))
  unfolding branch_cells
  load-reached k q c h =
      let i = item k (load_at ls k) in
      let t = load_rule b item ls k q c in
      let below = row_cells b item ls (first_child ls k) in
      let found = rule_found b.load_rules q (load_reach i below c) h in
      let g = guard-pos (i.serves t && leb (draw i t.label) c) (score i t.label ⊕ below t.to (c - draw i t.label))
      (subst (λ x. 0 < x) (sym found.1) h) in
      let d = and-elim (i.serves t) (leb (draw i t.label) c) g.0 in
      (found.0.0, leb→le (draw i t.label) c d.1, (⊕-pos (score i t.label) (below t.to (c - draw i t.label)) g.1).1)

  row-possible : (k g c : ℕ) → 0 < k → 0 < row_cells b item ls k g c → 0 < (row_best b item ls k g c).value
  row-possible zero g c o h = absurd (omega arith)
  row-possible (suc j) g c o h = subst (λ x. 0 < x) (row-cell b item ls j g c) h

  module _ (k g c : ℕ) (o : 0 < k) (h : 0 < row_cells b item ls k g c) where
    row-reached : ((row_best b item ls k g c).index < length b.row_rules) × ((share_best b item ls k g c).value ≡ (row_best b item ls k g c).value)
    row-reached =
        let f = rule_found b.row_rules g (row_reach (branch_cells b item ls k) (row_cells b item ls (next_sibling ls k)) c) (row-possible k g c o h) in
        (f.0.0, f.1)

    pub row-found : (row_best b item ls k g c).index < length b.row_rules
    row-found = row-reached.0

    pub share-reached : ((share_best b item ls k g c).index ≤ c)
        × (0 < branch_cells b item ls k (row_rule b item ls k g c).label (share_best b item ls k g c).index)
        × (0 < row_cells b item ls (next_sibling ls k) (row_rule b item ls k g c).to (c - (share_best b item ls k g c).index))
    share-reached =
        let branch = branch_cells b item ls k (row_rule b item ls k g c).label in
        let later = row_cells b item ls (next_sibling ls k) (row_rule b item ls k g c).to in
        let a = (share_best b item ls k g c).index in
        let s = argmax-found (λ a. branch a ⊕ later (c - a)) (suc c) (subst (λ x. 0 < x) (sym row-reached.1) (row-possible k g c o h)) in
        let both = ⊕-pos (branch a) (later (c - a)) (subst (λ x. 0 < x) (sym (s.1 ∙ row-reached.1)) (row-possible k g c o h)) in
        (omega (arith, s.0), both.0, both.1)

module _ (b : Book) (item : ℕ → Load → Item) where
  -- ---- the root
  pub tree-cell : (ls : List Load) (c : ℕ) → 0 < length ls → best_tree b (tree item ls) c ≡ (start_best b item ls c).value
  tree-cell [] c h = absurd (omega arith)
  tree-cell (l ∷ ls) c h = root-cell b item l ls c

  tree-entries : (ls : List Load) (c : ℕ) → 0 < length ls
      → choose_tree b (tree item ls) c ≡ branch_entries b item ls 1 0 (suc (start_best b item ls c).index) c
  tree-entries [] c h = absurd (omega arith)
  tree-entries (l ∷ ls) c h = root-entries b item l ls c

  module _ (ls : List Load) (c : ℕ) (some : 0 < length ls) (pos : 0 < (start_best b item ls c).value) where
    pub start-found : ((start_best b item ls c).index < b.states)
        × (guard (is_start b (suc (start_best b item ls c).index)) (branch_cells b item ls 1 (suc (start_best b item ls c).index) c) ≡ (start_best b item ls c).value)
    start-found = argmax-found (λ s. guard (is_start b (suc s)) (branch_cells b item ls 1 (suc s) c)) b.states pos

    pub root-part : IsTree ls → (let es = choose_tree b (tree item ls) c in
        BranchPart b item ls (marks_of es) (assigned_by es) 1 0 (suc (start_best b item ls c).index) c)
    root-part o =
        let es = choose_tree b (tree item ls) c in
        record {
          possible = (guard-pos (is_start b (suc (start_best b item ls c).index)) _ (subst (λ x. 0 < x) (sym start-found.1) pos)).1;
          follows = subst (Follows (marks_of es) (assigned_by es)) (tree-entries ls c some) (tree-follows b item ls o c);
        }

  module _ (ls : List Load) (σ : ℕ → ℕ) (ρ : ℕ → Assigned) where
    -- ---- a branch
    module _ (k r q c : ℕ) (h : BranchPart b item ls σ ρ k r q c) where
      pub below-part : RowPart b item ls σ ρ (first_child ls k) (load_rule b item ls k q c).to (below_left b item ls k q c)
      unfolding branch_entries
      below-part = record { possible = (load-reached b item ls k q c h.possible).2; follows = h.follows.2 }

      pub shown-mark : σ k ≡ (load_rule b item ls k q c).label
      unfolding branch_entries
      shown-mark = h.follows.0

      pub shown-rules : ρ k ≡ record { state = q; load_rule = suc (load_best b item ls k q c).index; row_rule = r }
      unfolding branch_entries
      shown-rules = h.follows.1

    -- ---- a row
    module _ (j g c : ℕ) (h : RowPart b item ls σ ρ (suc j) g c) where
      abbrev in_branch : List Entry
      in_branch = branch_entries b item ls (suc j) (suc (row_best b item ls (suc j) g c).index) (row_rule b item ls (suc j) g c).label (share_best b item ls (suc j) g c).index

      abbrev in_later : List Entry
      in_later = row_entries b item ls (next_sibling ls (suc j)) (row_rule b item ls (suc j) g c).to (c - (share_best b item ls (suc j) g c).index)

      both-follow : Follows σ ρ in_branch × Follows σ ρ in_later
      both-follow = follows-split σ ρ in_branch in_later (subst (Follows σ ρ) (row-entries b item ls j g c) h.follows)

      pub branch-part : BranchPart b item ls σ ρ (suc j) (suc (row_best b item ls (suc j) g c).index) (row_rule b item ls (suc j) g c).label (share_best b item ls (suc j) g c).index
      branch-part = record { possible = (share-reached b item ls (suc j) g c (omega arith) h.possible).1; follows = both-follow.0 }

      pub later-part : RowPart b item ls σ ρ (next_sibling ls (suc j)) (row_rule b item ls (suc j) g c).to (c - (share_best b item ls (suc j) g c).index)
      later-part = record { possible = (share-reached b item ls (suc j) g c (omega arith) h.possible).2; follows = both-follow.1 }
