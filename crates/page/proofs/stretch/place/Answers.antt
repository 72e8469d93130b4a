-- `place` meets its contract. Assumes nothing.
use Prim.Native.Nat.{◌*◌, ◌-◌}
use mathlib.Core.Path.{ap}
use native.Mathlib.Omega.{arith}
use Rattle.page.specs.declared.stretch.Rows.{Rows}
use Rattle.page.specs.Rows.{row_bytes}
use Rattle.page.specs.Stretch.{place}
use Rattle.page.proofs.Differing.{rows_fit}
use Rattle.page.proofs.stretch.place.Goals as goal

pub overflow_mul-result : goal.overflow_mul-result
overflow_mul-result c = let f = rows_fit _ _ c.differing-rows.ensures in omega (arith, f.0, f.1)

pub overflow_sub-result : goal.overflow_sub-result
overflow_sub-result c = (rows_fit _ _ c.differing-rows.ensures).0

pub overflow_mul-result-2 : goal.overflow_mul-result-2
overflow_mul-result-2 c = omega (arith, (rows_fit _ _ c.differing-rows.ensures).1)

pub returns : goal.returns
unfolding place
returns c = ap (λ (x : Rows). record { start = x.first * row_bytes; count = (x.end - x.first) * row_bytes }) c.differing-rows.ensures
