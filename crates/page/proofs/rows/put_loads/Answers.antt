-- `put_loads` meets its contract: a row a turn. Assumes nothing.
use native.Mathlib.Omega.{arith}
use Rattle.marks.specs.Sets.{mark_in}
use Rattle.lines.proofs.Writes.{writes_none, turn_room, turn_more, turn_all}
use Rattle.tables.specs.Stored.{loads_of}
use Rattle.page.specs.Rows.{load_row_count}
use Rattle.page.proofs.RowText.{rows_none, rows_more}
use Rattle.page.proofs.rows.put_loads.Invariants.{text, part}
use Rattle.page.proofs.rows.put_loads.Goals as goal

pub loop-i-init : goal.loop-i-init
loop-i-init c = let a = c.args in rw (rows_none (loads_of a.loads) (mark_in a.set) a.first) (writes_none _)

pub put_row-requires : goal.put_row-requires
put_row-requires c =
    let a = c.args in
    (turn_room (text a.loads a.set a.first) (part a.loads a.set a.first) load_row_count (λ i h. rows_more (loads_of a.loads) (mark_in a.set) a.first i) c.loop-i.i c.loop-i-test.true c.loop-i.invariant c.requires.0, omega (arith, c.requires.1), c.requires.3)

pub loop-i-preserved : goal.loop-i-preserved
loop-i-preserved c =
    let a = c.args in
    turn_more (text a.loads a.set a.first) (part a.loads a.set a.first) load_row_count (λ i h. rows_more (loads_of a.loads) (mark_in a.set) a.first i) c.loop-i.i c.loop-i-test.true c.loop-i.invariant c.put_row.ensures

pub returns : goal.returns
returns c =
    let a = c.args in
    turn_all (text a.loads a.set a.first) (part a.loads a.set a.first) load_row_count (λ i h. rows_more (loads_of a.loads) (mark_in a.set) a.first i) c.loop-i.i (omega arith) c.loop-i-test.false c.loop-i.invariant
