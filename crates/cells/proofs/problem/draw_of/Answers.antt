-- `draw_of` meets its contract. Assumes nothing.
use Prim.Native.Nat.{ℕ, zero, suc}
use mathlib.Core.Path.{◌≡◌, refl}
use Rattle.meaning.specs.Sets.{counted}
use Rattle.cells.proofs.problem.draw_of.Goals as goal

on : (m x : ℕ) → (m ≡ 0 → ⊥) → x ≡ counted m x
on zero x h = absurd (h refl)
on (suc m) x h = refl

pub returns-else-mark-eq0 : goal.returns-else-mark-eq0
returns-else-mark-eq0 c = on _ _ c.if-mark-eq0.false
