-- A tree that a load has left, and what is proved of it for tables that keep the limits.
-- It stands for request Three of paper 02: "`drop,k` removes load k if it has no children; higher numbers fall by one, in parents too" and "A plan
-- after a drop is the plan of a tree entered without that load". Assumes nothing.
use Rattle.std.specs.Prelude.{ℕ, suc, ◌≡◌, cond, ◌↔◌, eqb, ltb}
use Rattle.lists.specs.Tests.{pick}
use Rattle.tables.specs.Tables.{Tables}
use Rattle.tables.specs.Changes.{fallen, drop_load}
use Rattle.meaning.specs.Forest.{Forest, nil, node, checked, tree}
use Rattle.meaning.specs.Runs.{Assigned, TreeRun}
use Rattle.meaning.specs.Acceptance.{Accepts}
use Rattle.meaning.specs.Sets.{tree_of, power, worth, Accepted}
use Rattle.meaning.specs.Cell.{drawn, gained}
use Rattle.meaning.specs.Best.{best_tree, best_plan, best_check}
use Rattle.meaning.specs.Order.{tree_numbers}

-- a forest without its leaf k: the later children of its row follow on
unfoldable pub without : ℕ → Forest → Forest
without k nil = nil
without k (node j i below later) = cond (eqb j k) (without k later) (node j i (without k below) (without k later))

-- and with the numbers above k one less
unfoldable pub renumbered : ℕ → Forest → Forest
renumbered k nil = nil
renumbered k (node j i below later) = node (fallen k j) i (renumbered k below) (renumbered k later)

-- what is given by the numbers after load k has left, a set or an assignment, by those before
abbrev pub before : {A : Type 0} → ℕ → (ℕ → A) → ℕ → A
before k f j = f (fallen k j)

-- and the number before of each number after
abbrev pub risen : (k number : ℕ) → ℕ
risen k n = pick (ltb n k) n (suc n)

-- the tree of the tables without load k, as a plan and as a check of a set looks at it; by the numbers before
abbrev pub tree_left : Tables → ℕ → Forest
tree_left t k = without k (tree_of t)

abbrev pub checked_left : Tables → ℕ → (ℕ → ℕ) → Forest
checked_left t k σ = without k (tree (checked (before k σ)) t.loads)

-- the tables after load k has left have the tree that is left, with new numbers; and acceptance, runs, figures, what equals are parted by and
-- the best of a plan and of a check are those of the tree that is left
pub record Left (t : Tables) (k : ℕ) : Type 0 where
  pub shape : tree_of (drop_load t k) ≡ renumbered k (tree_left t k)
  -- every number but k comes back, so each set and assignment of the tree that is left is one of the tables after
  pub back : (j : ℕ) → (j ≡ k → ⊥) → risen k (fallen k j) ≡ j
  pub accepted : (σ : ℕ → ℕ) → Accepted (drop_load t k) σ ↔ Accepts t.book (before k σ) (tree_left t k)
  pub runs : (σ : ℕ → ℕ) (ρ : ℕ → Assigned) → TreeRun t.book σ ρ (tree_of (drop_load t k)) ↔ TreeRun t.book (before k σ) (before k ρ) (tree_left t k)
  pub powers : (σ : ℕ → ℕ) → power (drop_load t k) σ ≡ drawn (before k σ) (tree_left t k)
  pub worths : (σ : ℕ → ℕ) → worth (drop_load t k) σ ≡ gained (before k σ) (tree_left t k)
  pub parted : (σ : ℕ → ℕ) (ρ : ℕ → Assigned) → tree_numbers σ ρ (tree_of (drop_load t k)) ≡ tree_numbers (before k σ) (before k ρ) (tree_left t k)
  pub plan : best_plan (drop_load t k) ≡ best_tree t.book (tree_left t k) t.budget
  pub check : (σ : ℕ → ℕ) → best_check (drop_load t k) σ ≡ best_tree t.book (checked_left t k σ) 0
  pub check_parted : (σ : ℕ → ℕ) (ρ : ℕ → Assigned) → tree_numbers σ ρ (tree (checked σ) (drop_load t k).loads) ≡ tree_numbers (before k σ) (before k ρ) (checked_left t k σ)
