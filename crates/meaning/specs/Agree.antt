-- When two lists of loads agree on a row and on all that is below it: by the loads and their numbers.
-- It stands for request Seven of paper 02: "Two planners that agree on book, marks and rules, on a row's loads and on all loads below these get
-- the same best for that row, from each stage and at each allowance within both budgets, whatever else they hold." Load 0 stands for no load,
-- the end of a row: it has no loads, and any two lists agree on it. Assumes nothing.
use Rattle.std.specs.Prelude.{ℕ, ◌≤◌, ◌<◌, ◌≡◌, List, ◌⊎◌, length}
use Rattle.tables.specs.declared.load.Load.{Load}
use Rattle.meaning.specs.Cells.{load_at}

-- "a row's loads and .. all loads below these": load j is one of them, for the row from load k onward. It is load k itself, or a later load with
-- the same parent, or a later load whose parent is one of them.
pub data InRow (ls : List Load) (k : ℕ) : ℕ → Type 0 where
  first : 0 < k → k ≤ length ls → InRow ls k k
  later : (j : ℕ) → 0 < k → k < j → j ≤ length ls → (load_at ls j).parent ≡ (load_at ls k).parent → InRow ls k j
  below : (i j : ℕ) → InRow ls k i → i < j → j ≤ length ls → (load_at ls j).parent ≡ i → InRow ls k j

-- both have load j, and it is the same
pub record SameLoad (ls ls' : List Load) (j : ℕ) : Type 0 where
  pub one : j ≤ length ls
  pub other : j ≤ length ls'
  pub same : load_at ls j ≡ load_at ls' j

-- "agree .. on a row's loads and on all loads below these": each load that either has there is the same in both
abbrev pub AgreeOn : (ls ls' : List Load) → (k : ℕ) → Type 0
AgreeOn ls ls' k = (j : ℕ) → InRow ls k j ⊎ InRow ls' k j → SameLoad ls ls' j
