-- What "lowest" and "smallest" mean of a run, from the top down.
-- It stands for "Equals are parted from the top down" of paper 01: of two runs that reach the same, the one that is lower at the first
-- place where they differ comes first. Assumes nothing.
use Rattle.std.specs.Prelude.{ℕ, ◌+◌, ◌<◌, ◌≡◌, List, [], ◌∷◌, ◌++◌}
use Rattle.meaning.specs.Forest.{Forest, nil, node}
use Rattle.meaning.specs.Runs.{Assigned}
use Rattle.meaning.specs.Cell.{draw, drawn}

-- the first list is the lower one at the first place where the two differ, or they are equal
infix 30 ◌≼◌
pub data ◌≼◌ : List ℕ → List ℕ → Type 0 where
  end : [] ≼ []
  lower : {x y : ℕ} {xs ys : List ℕ} → x < y → (x ∷ xs) ≼ (y ∷ ys)
  equal : {x y : ℕ} {xs ys : List ℕ} → x ≡ y → xs ≼ ys → (x ∷ xs) ≼ (y ∷ ys)

module _ (σ : ℕ → ℕ) (ρ : ℕ → Assigned) where
  -- what equals are parted by: of each child its row rule, what its branch draws (the smallest allowance that does) and its load rule,
  -- then the same of the children below it, then of the later children
  unfoldable pub numbers : Forest → List ℕ
  numbers nil = []
  numbers (node k i below later) = (ρ k).row_rule ∷ (draw i (σ k) + drawn σ below) ∷ (ρ k).load_rule ∷ (numbers below ++ numbers later)

  -- of the root its start state and its load rule
  unfoldable pub tree_numbers : Forest → List ℕ
  tree_numbers nil = []
  tree_numbers (node k i below later) = (ρ k).state ∷ (ρ k).load_rule ∷ numbers below
