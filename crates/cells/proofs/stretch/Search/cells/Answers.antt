-- `cells` meets its contract: its cells are within those of the shape, of which there are few. Assumes nothing.
use Rattle.std.proofs.Common.{rules}
use native.Mathlib.Omega.{arith}
use Rattle.cells.proofs.Places.{cells-small, place-room}
use Rattle.cells.proofs.stretch.Search.cells.Goals as goal

pub overflow_add-result : goal.overflow_add-result
overflow_add-result c =
    let s = c.args in
    let n = c.requires in
    omega (arith, c.place-at.ensures, n.3, place-room s.self.now.shape s.k s.x n.0 n.1 n.2, cells-small s.self.now.shape c.args.self.now.ready.sane 512 c.args.self.now.ready.sane.budget)

pub offset_bounds-self-at : goal.offset_bounds-self-at
offset_bounds-self-at c =
    let s = c.args in
    let n = c.requires in
    omega (arith, c.place-at.ensures, place-room s.self.now.shape s.k s.x n.0 n.1 n.2, cells-small s.self.now.shape c.args.self.now.ready.sane 512 c.args.self.now.ready.sane.budget)

pub slice_bounds-result-end : goal.slice_bounds-result-end
slice_bounds-result-end c =
    let s = c.args in
    let n = c.requires in
    let r = place-room s.self.now.shape s.k s.x n.0 n.1 n.2 in
    let e = c.place-at.ensures in
    let m = c.args.self.now.ready.room in
    search rules
