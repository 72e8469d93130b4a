-- `stretch` meets its contract: the part of the drawn page. Assumes nothing.
use Prim.Native.Nat.{◌+◌, ◌-◌}
use mathlib.Core.Path.{◌≡◌}
use native.Mathlib.Omega.{arith}
use Rattle.page.specs.Stretch.{stretch}
use Rattle.page.proofs.Differing.{place-fits}
use Rattle.page.proofs.stretch.stretch.Goals as goal

pub overflow_add-end : goal.overflow_add-end
overflow_add-end c = omega (arith, place-fits _ _ c.place-part.ensures)

pub slice_bounds-result-end : goal.slice_bounds-result-end
slice_bounds-result-end c = place-fits _ _ c.place-part.ensures

pub returns : goal.returns
unfolding stretch
returns c =
    let r = c.place-part.result in
    let n : r.start + r.count - r.start ≡ r.count = omega arith in
    rw (n, c.place-part.ensures)
