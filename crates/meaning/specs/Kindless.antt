-- With all kinds 0 everything is as it was before there were kinds.
-- It stands for "Lines without it mean kind 0" of request Eight of paper 02: what was proved of tables without kinds is kept. Assumes nothing.
use Rattle.std.specs.Prelude.{ℕ, ◌≡◌, true, ◌↔◌, length}
use Rattle.tables.specs.declared.load.Load.{Load}
use Rattle.tables.specs.Tables.{Tables}
use Rattle.meaning.specs.Forest.{Item, Forest, planned, fixed_to, tree, row_at}
use Rattle.meaning.specs.Runs.{Assigned, TreeRun}
use Rattle.meaning.specs.Sets.{tree_of}
use Rattle.meaning.specs.Best.{best, best_tree, best_plan, best_check}
use Rattle.meaning.specs.Choice.{choose_tree, in_order, plan_entries, check_entries}
use Rattle.meaning.specs.Judge.{judge_tree}

-- what counts of a load where no kind is looked at: every load rule serves
abbrev pub unkinded : ℕ → Load → Item
unkinded k l = record { power = l.power; worth = l.worth; kind = 0; serves = λ t. true }

abbrev pub unkinded_checked : (ℕ → ℕ) → ℕ → Load → Item
unkinded_checked σ k l = fixed_to σ k (unkinded k l)

abbrev pub unkinded_tree : Tables → Forest
unkinded_tree t = tree unkinded t.loads

abbrev pub unkinded_checked_tree : Tables → (ℕ → ℕ) → Forest
unkinded_checked_tree t σ = tree (unkinded_checked σ) t.loads

-- plan, check, runs, judge and the best of each row are those of the tables without kinds
pub record AsBefore (t : Tables) : Type 0 where
  pub plan_best : best_plan t ≡ best_tree t.book (unkinded_tree t) t.budget
  pub plan : plan_entries t ≡ in_order (choose_tree t.book (unkinded_tree t) t.budget) 1 (length t.loads)
  pub check_best : (σ : ℕ → ℕ) → best_check t σ ≡ best_tree t.book (unkinded_checked_tree t σ) 0
  pub check : (σ : ℕ → ℕ) → check_entries t σ ≡ in_order (choose_tree t.book (unkinded_checked_tree t σ) 0) 1 (length t.loads)
  pub rows : (k : ℕ) → best t.book (row_at planned t.loads k) ≡ best t.book (row_at unkinded t.loads k)
  pub runs : (σ : ℕ → ℕ) (ρ : ℕ → Assigned) → TreeRun t.book σ ρ (tree_of t) ↔ TreeRun t.book σ ρ (unkinded_tree t)
  pub judged : (ρ : ℕ → Assigned) → judge_tree t.book ρ (tree_of t) ≡ judge_tree t.book ρ (unkinded_tree t)
