-- The value of a set in the search: 0 for none, else worth × 512 + 512 − power. A request that changes what is best changes this file and
-- its laws.
-- It stands for "of greatest worth, then of least power" of request Four of paper 02. (Document 000's formula 6 adds a weight here; formulas
-- 1 and 5 decide.) Assumes nothing.
use Rattle.std.specs.Prelude.{ℕ, zero, suc, ◌+◌, ◌-◌, ◌*◌}
use Rattle.meaning.specs.Forest.{Item, Forest, nil, node, total}
use Rattle.meaning.specs.Sets.{counted}

-- more than any budget: the laws of cells are for sets that draw less
abbrev pub power_limit : ℕ
power_limit = 512

-- the cell of a set with this power and worth: the greater cell is the better set, worth first, then less power
unfoldable pub cell : (power worth : ℕ) → ℕ
cell p v = v * power_limit + power_limit - p

-- the cells of sets that are worth v or more, and of no others, exceed this
unfoldable pub floor : (worth : ℕ) → ℕ
floor v = v * power_limit

abbrev pub empty : ℕ
empty = cell 0 0

-- the cell of two disjoint sets together
infixl 65 ◌⊕◌
unfoldable pub ◌⊕◌ : ℕ → ℕ → ℕ
zero ⊕ y = 0
suc x ⊕ zero = 0
suc x ⊕ suc y = suc x + suc y - empty

-- the power, the worth and the cell of a load with a mark
abbrev pub draw : Item → ℕ → ℕ
draw i m = counted m i.power

abbrev pub gain : Item → ℕ → ℕ
gain i m = counted m i.worth

abbrev pub score : Item → ℕ → ℕ
score i m = cell (draw i m) (gain i m)

-- the power, the worth and the cell of a set of a forest's loads
module _ (σ : ℕ → ℕ) where
  abbrev pub drawn : Forest → ℕ
  drawn = total (λ k i. draw i (σ k))

  abbrev pub gained : Forest → ℕ
  gained = total (λ k i. gain i (σ k))

  unfoldable pub scored : Forest → ℕ
  scored nil = empty
  scored (node k i below later) = score i (σ k) ⊕ scored below ⊕ scored later
