-- `flat` meets its contract: what is said of every allowance from the shift on is v, and below it nothing is. Assumes nothing.
use mathlib.Core.Path.{◌≡◌, sym, ◌∙◌}
use native.Mathlib.Omega.{arith}
use Rattle.std.proofs.Common.{rules, tests}
use Rattle.meaning.specs.Cell.{empty}
use Rattle.meaning.proofs.Cell.{⊕-empty}
use Rattle.cells.proofs.Strips.{raised-from, moved_at, moved_none}
use Rattle.cells.proofs.strip.flat.Goals as goal

pub returns : goal.returns
returns c =
    let s = c.args in
    raised-from (c.raise_to.ensures _
    (λ a y l m q.
    let z : y ≡ s.v = search (rules, tests) in
    let n = moved_at s.shift s.v (λ _. empty) a (omega (arith, c.max.ensures)) ∙ ⊕-empty s.v in
    (z ∙ sym n, omega (arith, n))))
    s.from (omega (arith, c.max.ensures)) (λ a l m. moved_none s.shift s.v (λ _. empty) a (omega (arith, c.max.ensures)))
