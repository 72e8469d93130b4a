-- Sets of loads of the tables: their figures, whether they are allowed, and which is best.
-- It stands for "A set's worth and power are the sums of its loads' figures, 0 for the empty set; it fits if its power is at most the
-- budget", "A set is allowed if it has a run" and "The plan has the greatest worth of all allowed sets whose power is within the budget" of
-- paper 01, and for "the plan is now of greatest worth, then of least power" of request Four of paper 02. Assumes nothing.
use Rattle.std.specs.Prelude.{ℕ, zero, suc, ◌≤◌, ◌≡◌, eqb}
use Rattle.lists.specs.Argmax.{guard}
use Rattle.tables.specs.Tables.{Tables}
use Rattle.meaning.specs.Forest.{Forest, planned, tree, sum}
use Rattle.meaning.specs.Runs.{Assigned, TreeRun}
use Rattle.meaning.specs.Acceptance.{Accepts}

-- a figure counts where the mark is not 0; a load rule has mark 0 or 1
abbrev pub counted : (mark figure : ℕ) → ℕ
counted zero x = 0
counted (suc m) x = x

abbrev pub tree_of : Tables → Forest
tree_of t = tree planned t.loads

module _ (t : Tables) (σ : ℕ → ℕ) where
  abbrev pub power : ℕ
  power = sum (λ k l. counted (σ k) l.power) t.loads 1

  abbrev pub worth : ℕ
  worth = sum (λ k l. counted (σ k) l.worth) t.loads 1

  -- "n being the number of loads on"
  abbrev pub number_on : ℕ
  number_on = sum (λ k l. guard (eqb (σ k) 1) 1) t.loads 1

  abbrev pub Allowed : Type 0
  Allowed = (ρ : ℕ → Assigned) × TreeRun t.book σ ρ (tree_of t)

  abbrev pub Accepted : Type 0
  Accepted = Accepts t.book σ (tree_of t)

  abbrev pub Fits : Type 0
  Fits = power ≤ t.budget

-- σ is a best set: it is allowed and fits, no other such set is worth more, and none of equal worth draws less
pub record Optimum (t : Tables) (σ : ℕ → ℕ) : Type 0 where
  pub allowed : Allowed t σ
  pub fits : Fits t σ
  pub greatest : (τ : ℕ → ℕ) → Allowed t τ → Fits t τ → worth t τ ≤ worth t σ
  -- "no allowed set of equal worth within the budget draws less"
  pub coolest : (τ : ℕ → ℕ) → Allowed t τ → Fits t τ → worth t τ ≡ worth t σ → power t σ ≤ power t τ

-- "no allowed set fits"
abbrev pub NoneFits : Tables → Type 0
NoneFits t = (σ : ℕ → ℕ) → Allowed t σ → Fits t σ → ⊥
