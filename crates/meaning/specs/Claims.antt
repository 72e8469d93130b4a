-- What is proved of the definitions, for tables that keep the limits. Each claim quotes the sentence that it answers.
-- Demands 2 and 3 on the planner rest on these. Assumes nothing.
use Rattle.std.specs.Prelude.{ℕ, suc, ◌≤◌, ◌<◌, ◌≡◌, List, [], ◌∷◌, ◌↔◌, T, length}
use Rattle.tables.specs.Tables.{Tables}
use Rattle.tables.specs.Changes.{set_budget}
use Rattle.meaning.specs.Forest.{checked, tree}
use Rattle.meaning.specs.Runs.{Assigned, TreeRun}
use Rattle.meaning.specs.Sets.{tree_of, power, worth, Allowed, Accepted, Fits, Optimum, NoneFits}
use Rattle.meaning.specs.Cell.{cell}
use Rattle.meaning.specs.Best.{best_plan, best_check}
use Rattle.tables.specs.declared.entry.Entry.{Entry}
use Rattle.meaning.specs.Choice.{plan_entries, check_entries, assigned_by, marks_of, shown_set}
use Rattle.meaning.specs.Order.{◌≼◌, tree_numbers}
use Rattle.meaning.specs.Judge.{judge_tree, own_marks}

-- the entries are one for each load, in load order
abbrev pub Numbered : ℕ → List Entry → Type 0
Numbered k [] = Unit {0}
Numbered k (e ∷ es) = (e.number ≡ k) × Numbered (suc k) es

pub record EachLoad (t : Tables) (es : List Entry) : Type 0 where
  pub all : length es ≡ length t.loads
  pub each : Numbered 1 es

-- a plan: a run of a best set, whose cell is the best, and the lowest of all runs that reach the same worth with the same power within the
-- budget: "and only then parted as 01 says"
pub record PlanShown (t : Tables) (es : List Entry) : Type 0 where
  pub loads : EachLoad t es
  pub run : TreeRun t.book (shown_set es) (assigned_by es) (tree_of t)
  pub optimum : Optimum t (shown_set es)
  pub value : best_plan t ≡ cell (power t (shown_set es)) (worth t (shown_set es))
  pub lowest : (σ : ℕ → ℕ) (ρ : ℕ → Assigned) → TreeRun t.book σ ρ (tree_of t) → Fits t σ
      → worth t σ ≡ worth t (shown_set es) → power t σ ≡ power t (shown_set es)
      → tree_numbers (shown_set es) (assigned_by es) (tree_of t) ≼ tree_numbers σ ρ (tree_of t)

-- the run of a checked set, the lowest of its runs. (No figure counts in a check: its branches draw 0.)
pub record CheckShown (t : Tables) (σ : ℕ → ℕ) (es : List Entry) : Type 0 where
  pub loads : EachLoad t es
  pub marks : (k : ℕ) → 0 < k → k ≤ length t.loads → marks_of es k ≡ σ k
  pub run : TreeRun t.book σ (assigned_by es) (tree_of t)
  pub lowest : (ρ : ℕ → Assigned) → TreeRun t.book σ ρ (tree_of t)
      → tree_numbers (marks_of es) (assigned_by es) (tree (checked σ) t.loads) ≼ tree_numbers σ ρ (tree (checked σ) t.loads)

pub record Claims (t : Tables) : Type 0 where
  -- "A set is allowed if it has a run. This is document 000's acceptance"
  pub accepted : (σ : ℕ → ℕ) → Allowed t σ ↔ Accepted t σ
  -- "No allowed set fits" is refusal 9, and else the plan is shown
  pub refused : (best_plan t ≡ 0) ↔ NoneFits t
  pub planned : 0 < best_plan t → PlanShown t (plan_entries t)
  -- "checked set not allowed" is refusal 10, and else its run is shown
  pub allowed : (σ : ℕ → ℕ) → (0 < best_check t σ) ↔ Accepted t σ
  pub checked : (σ : ℕ → ℕ) → 0 < best_check t σ → CheckShown t σ (check_entries t σ)
  -- the judge says yes exactly of runs: those of its own marks
  pub judged : (ρ : ℕ → Assigned) → T (judge_tree t.book ρ (tree_of t)) ↔ TreeRun t.book (own_marks t.book ρ) ρ (tree_of t)
  -- a greater budget is never worse: by its cell, and so by worth, then power
  pub grows : (b c : ℕ) → b ≤ c → best_plan (set_budget t b) ≤ best_plan (set_budget t c)
  pub better : (b c : ℕ) → b ≤ c → (σ τ : ℕ → ℕ) → Optimum (set_budget t b) σ → Optimum (set_budget t c) τ
      → (worth t σ ≤ worth t τ) × (worth t σ ≡ worth t τ → power t τ ≤ power t σ)
