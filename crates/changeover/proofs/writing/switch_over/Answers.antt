-- `switch_over` meets its contract: the steps written so far, and behind them what stood there. Assumes nothing.
use mathlib.Core.Path.{◌≡◌}
use native.Mathlib.Omega.{arith}
use Rattle.planner.specs.Planner.{held}
use Rattle.changeover.proofs.Listed.{writes}
use Rattle.changeover.proofs.writing.switch_over.Goals as goal

pub offset_bounds-list-i : goal.offset_bounds-list-i
offset_bounds-list-i c =
    let a = c.args in
    let w = writes (held a.planner) a.old.now a.new.now a.list.now c.in-Ok.order c.in-Ok.ensures in
    record { fits = omega (arith, w.most, c.loop-i-test.true) }

pub bounds-list-i : goal.bounds-list-i
bounds-list-i c =
    let a = c.args in
    let w = writes (held a.planner) a.old.now a.new.now a.list.now c.in-Ok.order c.in-Ok.ensures in
    omega (arith, w.room c.loop-i.i c.loop-i-test.true)

pub loop-i-preserved : goal.loop-i-preserved
loop-i-preserved c =
    let a = c.args in
    let i = c.loop-i.i in
    let w = writes (held a.planner) a.old.now a.new.now a.list.now c.in-Ok.order c.in-Ok.ensures in
    (omega arith, rw (c.loop-i.invariant.1, c.step.ensures) (w.next i c.loop-i-test.true))

pub returns : goal.returns
returns c =
    let a = c.args in
    let o = c.in-Ok.order in
    let w = writes (held a.planner) a.old.now a.new.now a.list.now o c.in-Ok.ensures in
    let all : c.loop-i.i ≡ o.count = omega arith in
    rw (c.loop-i.invariant.1, all) w.all
