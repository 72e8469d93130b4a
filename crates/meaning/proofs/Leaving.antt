-- The record of specs/Leaving holds of tables that keep the limits: the tree after a drop is the tree that is left with new numbers, and new numbers
-- only rename. Assumes nothing.
use Prim.Native.Nat.{ℕ, zero, suc, ◌+◌, ◌-◌, ◌≤◌, ◌<◌}
use mathlib.Core.Path.{◌≡◌, refl, sym, ap, ◌∙◌}
use mathlib.Core.Bool.{Bool, true, false, cond}
use mathlib.Core.List.{List, [], ◌∷◌, ◌++◌, map}
use mathlib.Core.Logic.Iff
use native.Mathlib.Omega.{arith}
use borrow.Author.Tests.{ltb-true, ltb-false, eqb-true, eqb-false, eq-eqb, ne_eqb}
use lib.Dec.{eqb, ltb}
use lib.ListN.{length, get_or, take, drop}
use Rattle.lists.specs.Tests.{pick, some}
use Rattle.lists.proofs.Bools.{or_left, or_right, same_test}
use Rattle.tables.specs.declared.load.Load.{Load}
use Rattle.tables.specs.Tables.{Book, Tables, no_load}
use Rattle.tables.specs.Changes.{is_child, has_children, fallen, reparented, remaining, drop_load}
use Rattle.tables.specs.Limits.{Limits}
use Rattle.tables.specs.Lawful.{LoadFits, Lawful}
use Rattle.tables.proofs.Lawful.{lawful}
use Rattle.tables.proofs.Removed.{fallen-value}
use Rattle.tables.proofs.Keeps.{drop-load-keeps}
use Rattle.meaning.specs.Forest.{Item, Forest, nil, node, planned, checked, row, tree, total, sum}
use Rattle.meaning.specs.Runs.{Assigned, Starts, BranchRun, RowRun, Run, TreeRun}
use Rattle.meaning.specs.Acceptance.{letter_of, Rewrites, AcceptsRow, Accepts}
use Rattle.meaning.specs.Sets.{tree_of}
use Rattle.meaning.specs.Cell.{draw, gain}
use Rattle.meaning.specs.Best.{branch_cell, row_cell, best, start_for, best_tree, best_plan, best_check}
use Rattle.meaning.specs.Order.{numbers, tree_numbers}
use Rattle.meaning.proofs.Rows.{row-none}
use Rattle.meaning.proofs.Ordered.{loads-ordered}
use Rattle.meaning.proofs.Tree.{tree-total}
use Rattle.meaning.specs.Leaving.{without, renumbered, before, risen, tree_left, checked_left, Left}

-- ---- the numbers after load k has left
module _ (k : ℕ) where
  -- every number but load k's comes back
  fallen-back : (n : ℕ) → (n ≡ k → ⊥) → risen k (fallen k n) ≡ n
  fallen-back n other = go (ltb (fallen k n) k) refl
    where
      go : (t : Bool) → ltb (fallen k n) k ≡ t → pick t (fallen k n) (suc (fallen k n)) ≡ n
      go true e = omega (arith, fallen-value k n, ltb-true (fallen k n) k e)
      go false e = omega (arith, fallen-value k n, ltb-false (fallen k n) k e, other)

  -- the next number is one more, but the load after load k gets load k's own
  fallen-here : (n : ℕ) → eqb n k ≡ true → fallen k (suc n) ≡ fallen k n
  fallen-here n e = omega (arith, fallen-value k n, fallen-value k (suc n), eqb-true n k e)

  fallen-suc : (n : ℕ) → eqb n k ≡ false → fallen k (suc n) ≡ suc (fallen k n)
  fallen-suc n e = omega (arith, fallen-value k n, fallen-value k (suc n), eqb-false n k e)

  -- two numbers that are not load k's are equal after the drop exactly if they were before
  fallen-eqb : (m n : ℕ) → eqb m k ≡ false → eqb n k ≡ false → eqb (fallen k m) (fallen k n) ≡ eqb m n
  fallen-eqb m n a b =
      same_test (eqb (fallen k m) (fallen k n)) (eqb m n)
      (λ e. eq-eqb m n (omega (arith, eqb-true (fallen k m) (fallen k n) e, fallen-value k m, fallen-value k n, eqb-false m k a, eqb-false n k b)))
      (λ e. eq-eqb (fallen k m) (fallen k n) (ap (fallen k) (eqb-true m n e)))

  -- the loads numbered from j, without load k: by number, where `remaining` goes by place
  remaining_from : List Load → ℕ → List Load
  remaining_from [] j = []
  remaining_from (l ∷ ls) j = cond (eqb j k) (remaining_from ls (suc j)) (reparented k l ∷ remaining_from ls (suc j))

  -- after load k every load remains
  from_past : (ls : List Load) (j : ℕ) → k < j → remaining_from ls j ≡ map (reparented k) ls
  unfolding remaining_from
  from_past [] j h = refl
  from_past (l ∷ ls) j h = rw (ne_eqb j k (omega arith)) (ap (λ r. reparented k l ∷ r) (from_past ls (suc j) (omega arith)))

  -- load k stands d places on
  from_place : (d : ℕ) (ls : List Load) (j : ℕ) → j + d ≡ k → remaining_from ls j ≡ map (reparented k) (take d ls ++ drop (suc d) ls)
  unfolding remaining_from
  from_place zero [] j e = refl
  from_place (suc d) [] j e = refl
  from_place zero (l ∷ ls) j e = rw (eq-eqb j k (omega arith)) (from_past ls (suc j) (omega arith))
  from_place (suc d) (l ∷ ls) j e = rw (ne_eqb j k (omega arith)) (ap (λ r. reparented k l ∷ r) (from_place d ls (suc j) (omega arith)))

  remaining-from : 1 ≤ k → (ls : List Load) → remaining k ls ≡ remaining_from ls 1
  unfolding remaining
  remaining-from one ls =
      let e : k ≡ suc (k - 1) = omega arith in
      ap (λ n. map (reparented k) (take (k - 1) ls ++ drop n ls)) e ∙ sym (from_place (k - 1) ls 1 (omega arith))

-- ---- the forest that is left, with new numbers
abbrev kept : ℕ → Forest → Forest
kept k f = renumbered k (without k f)

-- a row that load j begins, if the test says that it is a child, and else the later children alone
module _ (k j : ℕ) (i : Item) (below later : Forest) where
  without-node : eqb j k ≡ false → (t : Bool)
      → without k (cond t (node j i below later) later) ≡ cond t (node j i (without k below) (without k later)) (without k later)
  unfolding without
  without-node e true = rw e
  without-node e false = refl

  renumbered-node : (t : Bool)
      → renumbered k (cond t (node j i below later) later) ≡ cond t (node (fallen k j) i (renumbered k below) (renumbered k later)) (renumbered k later)
  unfolding renumbered
  renumbered-node true = refl
  renumbered-node false = refl

  -- load k itself
  kept_here : eqb j k ≡ true → (t : Bool) → kept k (cond t (node j i below later) later) ≡ kept k later
  unfolding without
  kept_here e true = rw e
  kept_here e false = refl

module _ (k : ℕ) (item item' : ℕ → Load → Item) (same : (j : ℕ) (l : Load) → item' (fallen k j) (reparented k l) ≡ item j l) where
  -- the children of p after the drop are those that are left of the children of p, if neither p nor the parent of any load is load k
  row_kept : (ls : List Load) (j p : ℕ) → eqb p k ≡ false → has_children k ls ≡ false
      → row item' (remaining_from k ls j) (fallen k j) (fallen k p) ≡ kept k (row item ls j p)
  unfolding row remaining_from renumbered without has_children some
  row_kept [] j p a h = refl
  row_kept (l ∷ ls) j p a h =
      let none = or_right (is_child k l) (has_children k ls) h in
      go (eqb j k) refl (λ e. row_kept ls (suc j) j e none) (row_kept ls (suc j) p a none)
    where
      rest : List Load
      rest = remaining_from k ls (suc j)

      below : Forest
      below = row item ls (suc j) j

      later : Forest
      later = row item ls (suc j) p

      go : (t : Bool) → eqb j k ≡ t → (eqb j k ≡ false → row item' rest (fallen k (suc j)) (fallen k j) ≡ kept k below)
          → row item' rest (fallen k (suc j)) (fallen k p) ≡ kept k later
          → row item' (cond t rest (reparented k l ∷ rest)) (fallen k j) (fallen k p) ≡ kept k (cond (eqb l.parent p) (node j (item j l) below later) later)
      go true e f g = rw (kept_here k j (item j l) below later e (eqb l.parent p), ← fallen-here k j e) g
      go false e f g =
          rw (
            without-node k j (item j l) below later e (eqb l.parent p),
            renumbered-node k j (item j l) (without k below) (without k later) (eqb l.parent p),
            fallen-eqb k l.parent p (or_left (is_child k l) (has_children k ls) h) a,
            same j l,
            ← fallen-suc k j e,
            f e,
            g,
          )

-- ---- the tree is the row of the children of 0, which the root alone is
module _ (item : ℕ → Load → Item) where
  tree-row : (ls : List Load) → ((j : ℕ) → j < length ls → LoadFits (suc j) (get_or ls j no_load)) → tree item ls ≡ row item ls 1 0
  unfolding tree row
  tree-row [] h = refl
  tree-row (l ∷ ls) h = rw (eq-eqb l.parent 0 (omega (arith, (h 0 (omega arith)).parent)), row-none item ls 2 (loads-ordered (l ∷ ls) h))

-- ---- new numbers only rename
module _ (k : ℕ) where
  renumbered-total : (w : ℕ → Item → ℕ) (f : Forest) → total w (renumbered k f) ≡ total (λ j i. w (fallen k j) i) f
  unfolding renumbered total
  renumbered-total w nil = refl
  renumbered-total w (node j i below later) = rw (renumbered-total w below, renumbered-total w later)

  module _ (b : Book) where
    renumbered-best : (f : Forest) → best b (renumbered k f) ≡ best b f
    unfolding renumbered best
    renumbered-best nil = refl
    renumbered-best (node j i below later) = λ x g c. row_cell b (branch_cell b i (renumbered-best below x)) (renumbered-best later x) g c

    renumbered-best-tree : (f : Forest) (c : ℕ) → best_tree b (renumbered k f) c ≡ best_tree b f c
    unfolding renumbered best_tree
    renumbered-best-tree nil c = refl
    renumbered-best-tree (node j i below later) c = λ x. (start_for b i (renumbered-best below x) c).value

    module _ (σ : ℕ → ℕ) where
      renumbered-accepts-row : (f : Forest) (qs : List ℕ) → AcceptsRow b σ (renumbered k f) qs ≡ AcceptsRow b (before k σ) f qs
      unfolding renumbered
      renumbered-accepts-row nil [] = refl
      renumbered-accepts-row nil (q ∷ qs) = refl
      renumbered-accepts-row (node j i below later) [] = refl
      renumbered-accepts-row (node j i below later) (q ∷ qs) = λ x.
          ((rs : List ℕ) × Rewrites b (letter_of i (σ (fallen k j))) q rs × renumbered-accepts-row below rs x) × renumbered-accepts-row later qs x

      renumbered-accepts : (f : Forest) → Accepts b σ (renumbered k f) ≡ Accepts b (before k σ) f
      unfolding renumbered
      renumbered-accepts nil = refl
      renumbered-accepts (node j i below later) = λ x.
          (q : ℕ) × Starts b q × (qs : List ℕ) × Rewrites b (letter_of i (σ (fallen k j))) q qs × renumbered-accepts-row below qs x

      module _ (ρ : ℕ → Assigned) where
        renumbered-run : (f : Forest) → Run b σ ρ (renumbered k f) ≡ Run b (before k σ) (before k ρ) f
        unfolding renumbered
        renumbered-run nil = refl
        renumbered-run (node j i below later) = λ x.
            RowRun b (ρ (fallen k j)).row_rule (ρ (fallen k j)).state
            (BranchRun b (σ (fallen k j)) (ρ (fallen k j)).load_rule i (renumbered-run below x)) (renumbered-run later x)

        renumbered-tree-run : (f : Forest) → TreeRun b σ ρ (renumbered k f) ≡ TreeRun b (before k σ) (before k ρ) f
        unfolding renumbered
        renumbered-tree-run nil = refl
        renumbered-tree-run (node j i below later) = λ x.
            Starts b (ρ (fallen k j)).state × ((ρ (fallen k j)).row_rule ≡ 0)
            × BranchRun b (σ (fallen k j)) (ρ (fallen k j)).load_rule i (renumbered-run below x) (ρ (fallen k j)).state

  module _ (σ : ℕ → ℕ) (ρ : ℕ → Assigned) where
    renumbered-numbers : (f : Forest) → numbers σ ρ (renumbered k f) ≡ numbers (before k σ) (before k ρ) f
    unfolding renumbered numbers
    renumbered-numbers nil = refl
    renumbered-numbers (node j i below later) =
        rw (renumbered-total (λ j i. draw i (σ j)) below, renumbered-numbers below, renumbered-numbers later)

    renumbered-tree-numbers : (f : Forest) → tree_numbers σ ρ (renumbered k f) ≡ tree_numbers (before k σ) (before k ρ) f
    unfolding renumbered tree_numbers
    renumbered-tree-numbers nil = refl
    renumbered-tree-numbers (node j i below later) = rw (renumbered-numbers below)

-- ---- the tables, before and after the drop
module _ (t : Tables) (k : ℕ) (w : Lawful t) (w' : Lawful (drop_load t k)) (one : 1 ≤ k) (none : has_children k t.loads ≡ false) where
  -- what the search knows of a load may go by its number: item by the number before the drop, item' by that after it
  tree-kept : (item item' : ℕ → Load → Item) → ((j : ℕ) (l : Load) → item' (fallen k j) (reparented k l) ≡ item j l)
      → tree item' (remaining k t.loads) ≡ kept k (tree item t.loads)
  tree-kept item item' same =
      let a : fallen k 1 ≡ 1 = omega (arith, fallen-value k 1) in
      let b : fallen k 0 ≡ 0 = omega (arith, fallen-value k 0) in
      let r = row_kept k item item' same t.loads 1 0 (ne_eqb 0 k (omega arith)) none in
      tree-row item' (remaining k t.loads) w'.load
      ∙ rw (remaining-from k one t.loads) (rw (a, b) at r)
      ∙ ap (kept k) (sym (tree-row item t.loads w.load))

  shape : tree_of (drop_load t k) ≡ renumbered k (tree_left t k)
  shape = tree-kept planned planned (λ j l. refl)

  checked-shape : (σ : ℕ → ℕ) → tree (checked σ) (remaining k t.loads) ≡ renumbered k (checked_left t k σ)
  checked-shape σ = tree-kept (checked (before k σ)) (checked σ) (λ j l. refl)

  -- a sum over the loads after the drop is one over the tree that is left
  figures : (figure : ℕ → Item → ℕ) → sum (λ j l. figure j (planned j l)) (remaining k t.loads) 1 ≡ total (λ j i. figure (fallen k j) i) (tree_left t k)
  figures figure =
      sym (tree-total planned figure (remaining k t.loads) (loads-ordered (remaining k t.loads) w'.load))
      ∙ ap (total figure) shape ∙ renumbered-total k figure (tree_left t k)

  left-holds : Left t k
  unfolding best_plan best_check
  left-holds = record {
    shape = shape;
    back = fallen-back k;
    accepted = λ σ. rw (shape, renumbered-accepts k t.book σ (tree_left t k)) Iff.rfl;
    runs = λ σ ρ. rw (shape, renumbered-tree-run k t.book σ ρ (tree_left t k)) Iff.rfl;
    powers = λ σ. figures (λ j i. draw i (σ j));
    worths = λ σ. figures (λ j i. gain i (σ j));
    parted = λ σ ρ. rw (shape, renumbered-tree-numbers k σ ρ (tree_left t k));
    plan = rw (shape, renumbered-best-tree k t.book (tree_left t k) t.budget);
    check = λ σ. rw (checked-shape σ, renumbered-best-tree k t.book (checked_left t k σ) 0);
    check_parted = λ σ ρ. rw (checked-shape σ, renumbered-tree-numbers k σ ρ (checked_left t k σ));
  }

pub left : (t : Tables) → Limits t → (k : ℕ) → 1 ≤ k → k ≤ length t.loads → has_children k t.loads ≡ false → Left t k
left t h k one most none = left-holds t k (lawful t h) (lawful (drop_load t k) (drop-load-keeps t h k one most none)) one none
