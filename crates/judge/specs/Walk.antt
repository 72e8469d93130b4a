-- The walk of the judge: the branch of load k, and the row from load k onward when it has reached a stage. Load 0 stands for no load.
-- They stand for "a load's branch is judged through its row, and a row through its branches" of paper 01. Assumes nothing.
use Rattle.std.specs.Prelude.{ℕ, zero, suc, ◌-◌, ◌<◌, ◌≡◌, Bool, List}
use Rattle.marks.specs.declared.Marks.{Marks}
use Rattle.tables.specs.Tables.{Tables}
use Rattle.meaning.specs.Forest.{planned, row_at}
use Rattle.meaning.specs.Cells.{load_at, first_child}
use Rattle.meaning.specs.Runs.{Assigned}
use Rattle.meaning.specs.Judge.{judge, judge_branch}
use Rattle.judge.specs.declared.figures.Step.{Step}
use Rattle.judge.specs.Figures.{LookedUp}

-- "the number of loads not yet reached": those from load k onward
abbrev pub left : (loads : ℕ) → ℕ → ℕ
left n zero = 0
left n (suc j) = n - j

module _ (t : Tables) (ρ : ℕ → Assigned) where
  unfoldable pub row_runs : ℕ → ℕ → Bool
  row_runs k g = judge t.book ρ (row_at planned t.loads k) g

  unfoldable pub branch_runs : ℕ → Bool
  branch_runs k =
      judge_branch t.book ρ k (planned k (load_at t.loads k)) (row_runs (first_child t.loads k)) (ρ k).state

-- the code is lent the steps alone: its answer is right for all tables and numbers whose steps they are. A row has a stage, 1 or more
module _ (ends : Marks) (steps : List Step) where
  abbrev pub JudgesBranch : ℕ → Bool → Type 0
  JudgesBranch k r = (t : Tables) (ρ : ℕ → Assigned) → LookedUp t ρ ends steps → r ≡ branch_runs t ρ k

  abbrev pub JudgesRow : ℕ → ℕ → Bool → Type 0
  JudgesRow k g r = (t : Tables) (ρ : ℕ → Assigned) → LookedUp t ρ ends steps → 0 < g → r ≡ row_runs t ρ k g
