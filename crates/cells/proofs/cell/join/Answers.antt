-- `join` meets its contract. Assumes nothing.
use Prim.Native.Nat.{ℕ, ◌+◌, ◌-◌, ◌<◌}
use mathlib.Core.Path.{◌≡◌, sym, ap, ◌∙◌}
use native.Mathlib.Omega.{arith}
use native.Mathlib.Decide.{dec_lt}
use Rattle.meaning.specs.Cell.{power_limit, ◌⊕◌}
use Rattle.meaning.proofs.Cell.{⊕-left, ⊕-right, ⊕-over, ⊕-both}
use Rattle.meaning.proofs.Bound.{empty-⊕}
use Rattle.cells.proofs.Numbers.{empty-is}
use Rattle.cells.proofs.cell.join.Goals as goal
use Rattle.cells.proofs.cell.join.Goals.{then-y-eq0, else-y-eq0}

alone : (x y : ℕ) → x ≡ power_limit → y ≡ x ⊕ y
alone x y e = sym (empty-⊕ y) ∙ ap (λ z. z ⊕ y) (sym empty-is ∙ sym e)

sums : (x y r : ℕ) → (x ≡ 0 → ⊥) → (y ≡ 0 → ⊥) → r ≡ x + y - power_limit → r ≡ x ⊕ y
sums x y r h k e = e ∙ sym (⊕-both x y h k)

none : (x y r : ℕ) → y ≡ 0 → r ≡ 0 → r ≡ x ⊕ y
none x y r k e = e ∙ sym (⊕-right x y k)

pub returns-then-x-eq-EMPTY : goal.returns-then-x-eq-EMPTY
returns-then-x-eq-EMPTY c = alone _ _ c.if-x-eq-EMPTY.true

-- where x is worth nothing and draws power
less : (x y r : ℕ) → (x ≡ 0 → ⊥) → x < power_limit → r ≡ x + y - power_limit → r ≡ x ⊕ y
less x y r h l e = go (dec_lt (x + y) power_limit)
  where
    go : Dec (x + y < power_limit) → r ≡ x ⊕ y
    go (yes k) = let z : r ≡ 0 = omega arith in z ∙ sym (⊕-over x y (omega arith))
    go (no k) = sums x y r h (λ q. omega arith) e

pub overflow_add-result : goal.overflow_add-result
overflow_add-result c = elim c.if-y-eq0.branch [ then-y-eq0 w ↦ omega arith | else-y-eq0 w ↦ omega arith ]

pub returns-then-x-gt-EMPTY : goal.returns-then-x-gt-EMPTY
returns-then-x-gt-EMPTY c =
    let s = c.args in
    elim c.if-y-eq0.branch [
      | then-y-eq0 w ↦ none s.x s.y _ w.if-y-eq0.true (omega arith)
      | else-y-eq0 w ↦ sums s.x s.y _ (λ e. omega arith) w.if-y-eq0.false (omega arith)
    ]

pub returns-then-x-eq0 : goal.returns-then-x-eq0
returns-then-x-eq0 c = sym (⊕-left _ _ c.if-x-eq0.true)

pub returns : goal.returns
returns c = let s = c.args in less s.x s.y _ c.if-x-eq0.false (omega arith) c.saturating_sub.ensures
