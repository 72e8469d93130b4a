-- Where cells stand: places are small, a stretch is within the work, and what the work holds of a row.
-- Assumes nothing.
use Prim.Native.Nat.{ℕ, zero, suc, ◌+◌, ◌-◌, ◌*◌, ◌≤◌, ◌<◌}
use mathlib.Core.Path.{◌≡◌, refl, sym, ap}
use mathlib.Core.Bool.{Bool}
use mathlib.Core.List.{List}
use native.Mathlib.Nat.{mul-le-mul, add-mul, mul-le-mul_right}
use native.Mathlib.Omega.{arith}
use Rattle.lists.specs.Argmax.{guard}
use Rattle.marks.specs.Bits.{has_mark}
use Rattle.tables.specs.Limits.{max_loads}
use Rattle.meaning.specs.Cell.{empty}
use Rattle.cells.specs.declared.problem.Shape.{Shape}
use Rattle.cells.specs.Problem.{Sane}
use Rattle.cells.specs.Work.{place_of, cells_needed, cells_from, held_row}

module _ (sh : Shape) (ok : Sane sh) where
  pub rank-small : (n : ℕ) → n ≤ sh.loads → n * (sh.states + sh.stages) ≤ max_loads * 16
  rank-small n l = mul-le-mul {n₂ = max_loads} {m₂ = 16} (omega (arith, ok.loads)) (omega (arith, ok.states, ok.stages))

  pub place-small : (n x : ℕ) → n ≤ sh.loads → x ≤ sh.states + sh.stages → (n * (sh.states + sh.stages) + x) * (sh.budget + 1) ≤ (max_loads * 16 + 16) * 512
  place-small n x l m = mul-le-mul {n₂ = max_loads * 16 + 16} {m₂ = 512} (omega (arith, rank-small n l, ok.states, ok.stages)) (omega (arith, ok.budget))

  pub cells-small : (m : ℕ) → sh.budget < m → cells_needed sh ≤ max_loads * 16 * m
  cells-small m l = mul-le-mul {n₂ = max_loads * 16} {m₂ = m} (rank-small sh.loads (omega arith)) (omega arith)

-- a stretch with all its allowances is within the work
pub place-room : (sh : Shape) (k x : ℕ) → 0 < k → k ≤ sh.loads → x < sh.states + sh.stages → place_of sh k x + (sh.budget + 1) ≤ cells_needed sh
unfolding place_of
place-room sh k x o l m =
    let h : (sh.loads - k + 1) * (sh.states + sh.stages) ≤ sh.loads * (sh.states + sh.stages) = mul-le-mul_right _ (omega arith) in
    let e : (sh.loads - k) * (sh.states + sh.stages) + x + 1 ≤ sh.loads * (sh.states + sh.stages) = omega (arith, rw (add-mul (sh.loads - k) 1 (sh.states + sh.stages)) at h) in
    omega (arith, rw (add-mul ((sh.loads - k) * (sh.states + sh.stages) + x) 1 (sh.budget + 1)) at (mul-le-mul_right (sh.budget + 1) e))

-- the row of no load, and of a load
module _ (sh : Shape) (w : List ℕ) where
  pub row-none : (k g : ℕ) → k ≡ 0 → (t : Bool) → t ≡ has_mark sh.ends.0 g → held_row sh w k g ≡ (λ c. guard t empty)
  row-none zero g e t h = ap (λ (b : Bool). λ (c : ℕ). guard b empty) (sym h)
  row-none (suc j) g e t h = absurd (omega arith)

  pub row-some : (k g : ℕ) → (k ≡ 0 → ⊥) → held_row sh w k g ≡ cells_from w (place_of sh k (sh.states + (g - 1)))
  row-some zero g e = absurd (e refl)
  row-some (suc j) g e = refl

-- a lower rank stands lower
rank_below : (r s a n : ℕ) → r < s → a < n → r * n + a < s * n
rank_below r s a n h l = omega (arith, rw (add-mul r 1 n) at (mul-le-mul_right n h'))
  where
    h' : r + 1 ≤ s
    h' = omega arith

module _ (sh : Shape) where
  -- a higher load stands before, and so does a lower state or stage of the same load
  pub place-later : (k k' x x' a : ℕ) → k < k' → k' ≤ sh.loads → x' < sh.states + sh.stages → a ≤ sh.budget → place_of sh k' x' + a < place_of sh k x
  unfolding place_of
  place-later k k' x x' a h l m n =
      rank_below _ _ a (sh.budget + 1) (omega (arith, rank_below (sh.loads - k') (sh.loads - k) x' (sh.states + sh.stages) (omega arith) m)) (omega arith)

  pub place-before : (k x x' a : ℕ) → x' < x → a ≤ sh.budget → place_of sh k x' + a < place_of sh k x
  unfolding place_of
  place-before k x x' a h n = rank_below _ _ a (sh.budget + 1) (omega arith) (omega arith)
