-- `lift` meets its contract: what is said of an allowance from the shift on is the cell joined, and below it nothing is. Assumes nothing.
use Prim.Native.Nat.{◌-◌}
use mathlib.Core.Path.{◌≡◌, sym, ◌∙◌}
use native.Mathlib.Omega.{arith}
use Rattle.std.proofs.Common.{rules, tests}
use Rattle.meaning.specs.Cell.{◌⊕◌}
use Rattle.cells.specs.Work.{cells_in}
use Rattle.cells.proofs.Strips.{raised-from, joined-le, moved_at, moved_none}
use Rattle.cells.proofs.strip.lift.Goals as goal

pub returns : goal.returns
returns c =
    let s = c.args in
    let f = cells_in s.cells.now in
    raised-from (c.raise_to.ensures _
    (λ a y l m q.
    let z : y ≡ s.own ⊕ f (a - s.shift) = search (rules, tests) in
    let n = moved_at s.shift s.own f a (omega (arith, c.max.ensures)) in
    (z ∙ sym n, omega (arith, n, joined-le s.own (f (a - s.shift))))))
    s.from (omega (arith, c.max.ensures)) (λ a l m. moved_none s.shift s.own f a (omega (arith, c.max.ensures)))
