-- `lighter` is safe and ends. Assumes nothing.
use native.Mathlib.Omega.{arith}
use Rattle.cells.specs.Work.{cells_in}
use Rattle.cells.proofs.Shares.{step-within, step-passed}
use Rattle.cells.proofs.strip.lighter.Goals as goal

pub loop-a-init : goal.loop-a-init
loop-a-init c =
    let s = c.args in
    (step-within (cells_in s.x.now) 0 0 _ _ c.next_step-a.ensures, step-within (cells_in s.y.now) 0 0 _ _ c.next_step-b.ensures)

pub loop-a-preserved : goal.loop-a-preserved
loop-a-preserved c =
    let s = c.args in (
      step-within (cells_in s.x.now) _ _ _ _ c.next_step-a-in-Some-Some.ensures,
      step-within (cells_in s.y.now) _ _ _ _ c.next_step-b-in-Some-Some.ensures,
    )

pub loop-a-smaller : goal.loop-a-smaller
loop-a-smaller c =
    let b = rw c.in-Some-Some.is-1 at c.loop-a.invariant.1 in
    let p = step-passed _ c.next_step-b-in-Some-Some.ensures in
    rw c.in-Some-Some.is-1 (omega (arith, b, p.low))
