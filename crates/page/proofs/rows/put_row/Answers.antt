-- `put_row` meets its contract: the load at its place in the list, or blanks. Assumes nothing.
use Prim.Native.Nat.{◌-◌, ◌≤◌}
use mathlib.Core.Path.{◌≡◌}
use mathlib.Core.List.{[]}
use native.Mathlib.Omega.{arith}
use borrow.Author.Rules.{rules}
use lib.ListN.{length, get_or}
use lib.Seq.{get_or-take, length-take-le}
use Rattle.tables.specs.declared.load.LoadList.{LoadList}
use Rattle.tables.specs.Limits.{max_loads}
use Rattle.tables.specs.Tables.{no_load}
use Rattle.tables.specs.Stored.{loads_of}
use Rattle.marks.specs.Sets.{mark_in}
use Rattle.lines.proofs.Writes.{writes_none}
use Rattle.page.proofs.RowText.{row-there, row-missing, blanks-room, writes-filled}
use Rattle.page.proofs.rows.put_row.Goals as goal

-- the loads in use are so many
count : (ls : LoadList) → length ls.items ≡ max_loads → ls.count ≤ max_loads → length (loads_of ls) ≡ ls.count
count ls full most = length-take-le ls.count ls.items (omega (arith, full, most))

pub put_blanks-requires : goal.put_blanks-requires
put_blanks-requires c =
    let a = c.args in
    blanks-room {s = []} (omega arith)
    (rw (row-missing (loads_of a.loads) (mark_in a.set) a.number (omega (arith, count c.args.loads (search rules) c.requires.2, c.if-loads-number.true))) at c.requires.0)
    (writes_none _)

pub returns-then-loads-number : goal.returns-then-loads-number
returns-then-loads-number c =
    let a = c.args in
    rw (row-missing (loads_of a.loads) (mark_in a.set) a.number (omega (arith, count c.args.loads (search rules) c.requires.2, c.if-loads-number.true)))
    (writes-filled {s = []} (omega arith) (writes_none _) c.put_blanks.ensures)

pub put_load-requires : goal.put_load-requires
put_load-requires c =
    let a = c.args in
    let there : a.number ≤ length (loads_of a.loads) = omega (arith, count c.args.loads (search rules) c.requires.2, c.if-loads-number.false) in
    let load : get_or (loads_of a.loads) (a.number - 1) no_load ≡ get_or a.loads.items (a.number - 1) no_load = get_or-take a.loads.count a.loads.items (a.number - 1) no_load (omega (arith, c.requires.1, c.if-loads-number.false)) in
    (rw (row-there (loads_of a.loads) (mark_in a.set) a.number c.requires.1 there, load, ← c.has.ensures) at c.requires.0, omega (arith, c.requires.2, c.if-loads-number.false))

pub returns : goal.returns
returns c =
    let a = c.args in
    let there : a.number ≤ length (loads_of a.loads) = omega (arith, count c.args.loads (search rules) c.requires.2, c.if-loads-number.false) in
    let load : get_or (loads_of a.loads) (a.number - 1) no_load ≡ get_or a.loads.items (a.number - 1) no_load = get_or-take a.loads.count a.loads.items (a.number - 1) no_load (omega (arith, c.requires.1, c.if-loads-number.false)) in
    rw (row-there (loads_of a.loads) (mark_in a.set) a.number c.requires.1 there, load, ← c.has.ensures) c.put_load.ensures
