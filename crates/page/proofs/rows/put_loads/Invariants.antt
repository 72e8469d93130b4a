-- `put_loads` meets its contract. The invariant: the rows of the first i loads are written. Assumes nothing.
use Prim.Native.Nat.{ℕ, ◌+◌}
use mathlib.Core.List.{List}
use Rattle.marks.specs.Sets.{mark_in}
use Rattle.marks.specs.declared.LoadSet.{LoadSet}
use Rattle.lines.specs.Writing.{Writes}
use Rattle.tables.specs.declared.load.LoadList.{LoadList}
use Rattle.tables.specs.Stored.{loads_of}
use Rattle.page.specs.Rows.{row_of, load_rows}
use Rattle.page.proofs.rows.put_loads.Given as goal

-- the rows of the first i loads, and what the next adds to them
abbrev pub text : LoadList → LoadSet → (first i : ℕ) → List ℕ
text ls s k i = load_rows (loads_of ls) (mark_in s) k i

abbrev pub part : LoadList → LoadSet → (first i : ℕ) → List ℕ
part ls s k i = row_of (loads_of ls) (mark_in s) (k + i)

abbrev pub invariant-loop-i : goal.invariant-loop-i
invariant-loop-i l = Writes l.initial.w l.w (text l.loads l.set l.first l.i)
