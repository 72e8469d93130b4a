-- The work after a row. Assumes nothing.
use Prim.Native.Nat.{ℕ}
use mathlib.Core.Path.{◌≡◌, refl}
use mathlib.Core.Bool.{Bool, true, false}
use mathlib.Core.List.{List}
use native.Mathlib.Omega.{arith}
use Rattle.lists.specs.Tests.{pick}
use Rattle.calls.specs.Rows.{Row, cells_for}
use Rattle.calls.specs.Printing.{zeroed, searched, work_after}

pub clash : true ≡ false → ⊥
clash h = absurd (let z : ◌≡◌ {A = ℕ} 0 1 = cc in omega arith)

-- only a row that searched touches it, and leaves its cells 0
module _ (n : ℕ) (r : Row) (w : List ℕ) where
  pub unsearched : searched n ≡ false → work_after n r w ≡ w
  unfolding work_after
  unsearched e = rw e

  pub row-zeroed : searched n ≡ true → work_after n r w ≡ zeroed (cells_for r) w
  unfolding work_after
  row-zeroed e = rw e

  -- a row that works in no cells leaves them as they were
  pub no_cells : cells_for r ≡ 0 → work_after n r w ≡ w
  unfolding work_after zeroed
  no_cells e = rw e (go (searched n))
    where
      go : (b : Bool) → pick b w w ≡ w
      go true = refl
      go false = refl
