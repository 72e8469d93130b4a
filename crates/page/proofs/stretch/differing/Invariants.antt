-- `differing` meets its contract. The invariant: the rows so far were compared. Assumes nothing.
use Prim.Native.Nat.{◌-◌, ◌≤◌}
use mathlib.Core.Path.{◌≡◌}
use Rattle.page.specs.declared.stretch.Rows.{Rows}
use Rattle.page.specs.Rows.{row_count}
use Rattle.page.specs.Stretch.{differs, passing}
use Rattle.page.proofs.stretch.differing.Given as goal

abbrev pub invariant-loop-row : goal.invariant-loop-row
invariant-loop-row l = (l.row ≤ row_count) × ◌≡◌ {A = Rows} (record { first = l.first; end = l.end }) (passing (differs l.glass l.drawn) l.row)

abbrev pub decreases-loop-row : goal.decreases-loop-row
decreases-loop-row l = row_count - l.row
