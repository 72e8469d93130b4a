-- `own_of` meets its contract. Assumes nothing.
use Prim.Native.Nat.{ℕ, zero, suc}
use mathlib.Core.Path.{◌≡◌, refl, ◌∙◌}
use native.Mathlib.Omega.{arith}
use Rattle.meaning.specs.Sets.{counted}
use Rattle.meaning.specs.Cell.{cell, empty}
use Rattle.cells.proofs.Numbers.{empty-is}
use Rattle.cells.proofs.problem.own_of.Goals as goal

off : (m p v : ℕ) → m ≡ 0 → empty ≡ cell (counted m p) (counted m v)
off zero p v h = refl
off (suc m) p v h = absurd (omega arith)

on : (m p v : ℕ) → (m ≡ 0 → ⊥) → cell p v ≡ cell (counted m p) (counted m v)
on zero p v h = absurd (h refl)
on (suc m) p v h = refl

pub returns-then-mark-eq0 : goal.returns-then-mark-eq0
returns-then-mark-eq0 c = let i = c.args.i in (empty-is ∙ off _ i.power i.worth c.if-mark-eq0.true, omega arith)

pub returns : goal.returns
returns c =
    let i = c.args.i in
    (c.cell_of.ensures.0 ∙ on _ i.power i.worth c.if-mark-eq0.false, c.cell_of.ensures.1)
