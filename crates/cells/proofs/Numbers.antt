-- Cells as numbers: that of the empty set, and the bound that every cell of a search keeps. A request that changes what is best changes
-- this file. The limit is 2 ^ 30: two numbers below it fit 32 bits together, and no cell passes it, not even of 128 loads worth 1,000
-- each with cells worth × 512 + 512 − power, which are at most 65,536,512. Assumes nothing.
use Prim.Native.Nat.{ℕ, ◌+◌, ◌-◌, ◌*◌, ◌≤◌, ◌<◌}
use mathlib.Core.Path.{◌≡◌, refl}
use native.Mathlib.Omega.{arith}
use Rattle.tables.specs.Limits.{max_loads, max_worth}
use Rattle.meaning.specs.Cell.{cell, power_limit, empty}
use Rattle.cells.specs.Work.{cell_limit, held_in}

pub empty-is : power_limit ≡ empty
unfolding cell
empty-is = refl

pub cell-is : (p v r : ℕ) → r ≡ v * power_limit + power_limit - p → r ≡ cell p v
unfolding cell
cell-is p v r e = e

-- the cells of so many loads fit
pub cell-fits : (n x : ℕ) → n ≤ max_loads → x ≤ cell 0 (max_worth + (max_worth + max_worth * n + max_worth * n)) → x < cell_limit
unfolding cell
cell-fits n x h l = omega arith

-- a cell that fits is read as it is
pub held_same : (x : ℕ) → x < cell_limit → held_in x ≡ x
held_same x h = omega arith
