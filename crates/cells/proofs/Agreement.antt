-- Request Seven: planners that agree on a row and on all that is below it get the same best for it. Assumes nothing.
use Prim.Native.Nat.{ℕ, ◌+◌, ◌-◌, ◌≤◌, ◌<◌}
use mathlib.Core.Path.{◌≡◌, sym, ap, ◌∙◌}
use mathlib.Core.List.{List}
use mathlib.Core.Logic.{inl}
use native.Mathlib.Omega.{arith}
use lib.ListN.{length}
use Rattle.tables.specs.declared.tables.StoredTables.{StoredTables}
use Rattle.tables.specs.Tables.{Book}
use Rattle.tables.specs.Stored.{book_of}
use Rattle.meaning.specs.Forest.{planned}
use Rattle.meaning.specs.Cells.{row_cells}
use Rattle.meaning.specs.Agree.{first}
use Rattle.meaning.proofs.SameRows.{best-same}
use Rattle.cells.specs.Problem.{plan_problem, loads_for, shape_of}
use Rattle.cells.specs.Work.{row_for}
use Rattle.cells.specs.Claims.{Left, row_cell_in, RowsAgree}
use Rattle.cells.proofs.Places.{place-room}
use Rattle.cells.proofs.Stretches.{loads-long, cell_row}
use Rattle.cells.proofs.Filling.{holds-none}

-- what `fill` leaves for a row is its best
module _ (s : StoredTables) (v : List ℕ) (l : Left s v) (k g c : ℕ) (low : 0 < k) (high : k ≤ s.loads.count) (lg : 0 < g) (hg : g ≤ s.book.stages)
    (fits : c ≤ s.budget) where
  left-best : row_cell_in s v k g c ≡ row_for (plan_problem s) k g c
  left-best =
      let p = plan_problem s in
      let sh = shape_of p in
      let x = s.book.states + (g - 1) in
      let room = place-room sh k x low high (omega arith) in
      ((l.filled p l.outlined).holds (holds-none p l.before)).at k x c low high (omega arith) fits (omega arith)
      ∙ cell_row p k x c (omega arith) ∙ ap (λ z. row_for p k z c) (omega arith)

pub rows_agree : RowsAgree
unfolding book_of
rows_agree s s' k low high a v v' l l' g c lg hg fits fits' =
    left-best s v l k g c low high lg hg fits
    ∙ best-same (book_of s.book) planned (loads_for (plan_problem s)) (loads_for (plan_problem s')) k a.loads g c
    ∙ ap (λ (b : Book). row_cells b planned (loads_for (plan_problem s')) k g c) a.book
    ∙ sym (left-best s' v' l' k g c low high' lg hg' fits')
  where
    long : length (loads_for (plan_problem s)) ≡ s.loads.count
    long = loads-long (plan_problem s) l.outlined.lawful

    long' : length (loads_for (plan_problem s')) ≡ s'.loads.count
    long' = loads-long (plan_problem s') l'.outlined.lawful

    high' : k ≤ s'.loads.count
    high' = omega (arith, (a.loads k (inl (first low (omega (arith, long))))).other, long')

    stages : s.book.stages ≡ s'.book.stages
    stages = ap (λ (b : Book). b.stages) a.book

    hg' : g ≤ s'.book.stages
    hg' = omega (arith, stages)
