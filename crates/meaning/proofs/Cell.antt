-- What the search needs of cells.
-- Assumes nothing.
use Prim.Native.Nat.{ℕ, zero, suc, ◌+◌, ◌-◌, ◌*◌, ◌≤◌, ◌<◌, zero-le}
use mathlib.Core.Path.{◌≡◌, refl, ◌∙◌}
use native.Mathlib.Nat.{not-suc-le-zero}
use native.Mathlib.Omega.{arith}
use borrow.Author.Tests.{leb-true, ltb-true, le-leb, lt-ltb}
use lib.Dec.{leb, ltb}
use Rattle.lists.proofs.Bools.{same_test}
use Rattle.meaning.specs.Cell.{cell, floor, power_limit, empty, ◌⊕◌}

pub ⊕-mono : (x x' y y' : ℕ) → x ≤ x' → y ≤ y' → x ⊕ y ≤ x' ⊕ y'
unfolding ◌⊕◌ cell
⊕-mono zero x' y y' h k = zero-le
⊕-mono (suc x) x' zero y' h k = zero-le
⊕-mono (suc x) zero (suc y) y' h k = absurd (not-suc-le-zero h)
⊕-mono (suc x) (suc x') (suc y) zero h k = absurd (not-suc-le-zero k)
⊕-mono (suc x) (suc x') (suc y) (suc y') h k = omega arith

pub ⊕-pos : (x y : ℕ) → 0 < x ⊕ y → (0 < x) × (0 < y)
unfolding ◌⊕◌
⊕-pos zero y h = absurd (not-suc-le-zero h)
⊕-pos (suc x) zero h = absurd (not-suc-le-zero h)
⊕-pos (suc x) (suc y) h = omega arith

-- two cells that are no greater and together as great are as great
pub ⊕-equal : (x x' y y' : ℕ) → x ≤ x' → y ≤ y' → 0 < x ⊕ y → x ⊕ y ≡ x' ⊕ y' → (x ≡ x') × (y ≡ y')
unfolding ◌⊕◌ cell
⊕-equal zero x' y y' h k l e = absurd (not-suc-le-zero l)
⊕-equal (suc x) x' zero y' h k l e = absurd (not-suc-le-zero l)
⊕-equal (suc x) zero (suc y) y' h k l e = absurd (not-suc-le-zero h)
⊕-equal (suc x) (suc x') (suc y) zero h k l e = absurd (not-suc-le-zero k)
⊕-equal (suc x) (suc x') (suc y) (suc y') h k l e = omega arith

pub ⊕-empty : (x : ℕ) → x ⊕ empty ≡ x
unfolding ◌⊕◌ cell
⊕-empty zero = refl
⊕-empty (suc x) = omega arith

pub ⊕-comm : (x y : ℕ) → x ⊕ y ≡ y ⊕ x
unfolding ◌⊕◌ cell
⊕-comm zero zero = refl
⊕-comm zero (suc y) = refl
⊕-comm (suc x) zero = refl
⊕-comm (suc x) (suc y) = omega arith

-- by cases, as code goes
pub ⊕-left : (x y : ℕ) → x ≡ 0 → x ⊕ y ≡ 0
unfolding ◌⊕◌
⊕-left zero y h = refl
⊕-left (suc x) y h = absurd (omega arith)

pub ⊕-right : (x y : ℕ) → y ≡ 0 → x ⊕ y ≡ 0
unfolding ◌⊕◌
⊕-right zero y h = refl
⊕-right (suc x) zero h = refl
⊕-right (suc x) (suc y) h = absurd (omega arith)

-- two sets that are worth nothing and draw too much together, or one that is none
pub ⊕-over : (x y : ℕ) → x + y ≤ power_limit → x ⊕ y ≡ 0
unfolding ◌⊕◌ cell
⊕-over zero y h = refl
⊕-over (suc x) zero h = refl
⊕-over (suc x) (suc y) h = omega arith

pub ⊕-both : (x y : ℕ) → (x ≡ 0 → ⊥) → (y ≡ 0 → ⊥) → x ⊕ y ≡ x + y - power_limit
unfolding ◌⊕◌ cell
⊕-both zero y h k = absurd (h refl)
⊕-both (suc x) zero h k = absurd (k refl)
⊕-both (suc x) (suc y) h k = refl

-- the cell of two sets together is that of their power and worth together
pub cell-add : (p v p' v' : ℕ) → p + p' < power_limit → cell p v ⊕ cell p' v' ≡ cell (p + p') (v + v')
unfolding ◌⊕◌ cell
cell-add p v p' v' h =
    let sum : cell p v + cell p' v' - power_limit ≡ cell (p + p') (v + v') = omega arith in
    ⊕-both (cell p v) (cell p' v') (λ e. absurd (omega arith)) (λ e. absurd (omega arith)) ∙ sum

pub cell-pos : (p v : ℕ) → p < power_limit → 0 < cell p v
unfolding cell
cell-pos p v h = omega arith

-- the greater cell is worth no less
pub cell-le : (p v p' v' : ℕ) → p < power_limit → p' < power_limit → cell p v ≤ cell p' v' → v ≤ v'
unfolding cell
cell-le p v p' v' h h' l = omega arith

-- and of equal worth draws no more
pub cell-cooler : (p v p' v' : ℕ) → p < power_limit → v ≡ v' → cell p v ≤ cell p' v' → p' ≤ p
unfolding cell
cell-cooler p v p' v' h e l = omega arith

-- a cell exceeds the floor of a worth exactly where its set is worth so much
pub cell_below : (p w v : ℕ) → p < power_limit → ltb w v ≡ leb (cell p w) (floor v)
unfolding cell floor
cell_below p w v h =
    let c = w * power_limit + power_limit - p in
    same_test (ltb w v) (leb c (v * power_limit)) (λ e. le-leb c _ (omega (arith, ltb-true w v e))) (λ e. lt-ltb w v (omega (arith, leb-true c (v * power_limit) e)))
