-- `row_at` meets its contract: the end of a row by its stage, or a cell within the work. Assumes nothing.
use Prim.Native.Nat.{ℕ}
use mathlib.Core.Path.{◌≡◌, sym, ap, ◌∙◌}
use mathlib.Core.Bool.{Bool, true}
use mathlib.Core.List.{List}
use native.Mathlib.Omega.{arith}
use Rattle.lists.specs.Argmax.{guard}
use Rattle.marks.specs.Bits.{has_mark}
use Rattle.meaning.specs.Cell.{power_limit}
use Rattle.cells.specs.declared.problem.Shape.{Shape}
use Rattle.cells.specs.Work.{held_row}
use Rattle.cells.proofs.Numbers.{empty-is}
use Rattle.cells.proofs.Places.{row-none}
use Rattle.engine.proofs.filled.Filled.row_at.Goals as goal

none : (sh : Shape) (w : List ℕ) (k g c : ℕ) → k ≡ 0 → (b : Bool) → b ≡ has_mark sh.ends.0 g → (t : Bool) → b ≡ t → guard t power_limit ≡ held_row sh w k g c
none sh w k g c e b h t q = ap (guard t) empty-is ∙ ap (λ (f : ℕ → ℕ). f c) (sym (row-none sh w k g e t (sym q ∙ h)))

pub returns-then-has : goal.returns-then-has
returns-then-has c =
    let s = c.args in
    (none s.self.now.shape s.self.now.cells.now s.k s.g s.c c.if-k-ne0.false _ c.has.ensures true c.if-has.true, omega arith)
