-- The tree of the loads, in first-child, next-sibling form, with what the search knows of each load.
-- It stands for "Load 1 is the root .. each later load has a parent with a smaller number. Children are ordered by number." of paper 01.
-- Assumes nothing.
use Rattle.std.specs.Prelude.{ℕ, zero, suc, ◌+◌, ◌<◌, Bool, cond, ◌&&◌, List, [], ◌∷◌, eqb, get_or, drop}
use Rattle.tables.specs.declared.rule.Transition.{Transition}
use Rattle.tables.specs.declared.load.Load.{Load}
use Rattle.tables.specs.Tables.{no_load}

-- what counts of a load in a search (an item of document 000's problem): its figures, its kind, and which load rules serve it
pub record Item : Type 0 where
  pub power : ℕ
  pub worth : ℕ
  pub kind : ℕ
  pub serves : Transition → Bool

-- planning: the load's own figures; and "a rule serves only loads of its kind" of request Eight of paper 02
abbrev pub planned : ℕ → Load → Item
planned k l = record { power = l.power; worth = l.worth; kind = l.kind; serves = λ t. eqb t.kind l.kind }

-- checking a set σ, the mark of each load by its number: no figure counts, and of the rules that serve, those with the load's mark
abbrev pub fixed_to : (ℕ → ℕ) → ℕ → Item → Item
fixed_to σ k i = record { power = 0; worth = 0; kind = i.kind; serves = λ t. i.serves t && eqb t.label (σ k) }

abbrev pub checked : (ℕ → ℕ) → ℕ → Load → Item
checked σ k l = fixed_to σ k (planned k l)

-- a row of children from some child onward: that child with its number, the children below it, and the later children of its row
pub data Forest : Type 0 where
  nil : Forest
  node : (number : ℕ) → Item → (below later : Forest) → Forest

module _ (item : ℕ → Load → Item) where
  -- the children of load p among the loads numbered from k
  unfoldable pub row : List Load → ℕ → ℕ → Forest
  row [] k p = nil
  row (l ∷ ls) k p = cond (eqb l.parent p) (node k (item k l) (row ls (suc k) k) (row ls (suc k) p)) (row ls (suc k) p)

  -- "Load 1 is the root"
  unfoldable pub tree : List Load → Forest
  tree [] = nil
  tree (l ∷ ls) = node 1 (item 1 l) (row ls 2 1) nil

-- the first load with parent p among the loads numbered from k, 0 if there is none
unfoldable pub first : List Load → ℕ → ℕ → ℕ
first [] k p = 0
first (l ∷ ls) k p = cond (eqb l.parent p) k (first ls (suc k) p)

-- the first load with parent p after load j
unfoldable pub after : List Load → ℕ → ℕ → ℕ
after ls j p = first (drop j ls) (suc j) p

module _ (item : ℕ → Load → Item) (ls : List Load) where
  -- the children of load p after load j
  abbrev pub row_after : ℕ → ℕ → Forest
  row_after j p = row item (drop j ls) (suc j) p

  -- the row from load k onward; load 0 stands for no load
  abbrev pub row_at : ℕ → Forest
  row_at zero = nil
  row_at (suc j) =
      node (suc j) (item (suc j) (get_or ls j no_load)) (row_after (suc j) (suc j)) (row_after (suc j) (get_or ls j no_load).parent)

-- "each later load has a parent with a smaller number": the loads numbered from k
abbrev pub Ordered : List Load → ℕ → Type 0
Ordered [] k = Unit {0}
Ordered (l ∷ ls) k = (0 < l.parent) × (l.parent < k) × Ordered ls (suc k)

abbrev pub IsTree : List Load → Type 0
IsTree [] = Unit {0}
IsTree (l ∷ ls) = Ordered ls 2

-- the sum of a figure over a forest, and over the loads numbered from k
unfoldable pub total : (ℕ → Item → ℕ) → Forest → ℕ
total w nil = 0
total w (node k i below later) = w k i + total w below + total w later

unfoldable pub sum : (ℕ → Load → ℕ) → List Load → ℕ → ℕ
sum w [] k = 0
sum w (l ∷ ls) k = w k l + sum w ls (suc k)
