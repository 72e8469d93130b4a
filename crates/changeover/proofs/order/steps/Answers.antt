-- `steps` meets its contract: behind the steps of the loads that go off, those of the loads up to the one passed. Assumes nothing.
use Prim.Native.Nat.{◌+◌}
use mathlib.Core.Path.{◌≡◌, ap₂, ◌∙◌}
use mathlib.Core.Bool.{◌&&◌, not}
use native.Mathlib.Omega.{arith}
use Rattle.marks.specs.Sets.{has_load}
use Rattle.changeover.specs.Steps.{goes_on}
use Rattle.changeover.proofs.Orders.{on_none, on-turn, on_room}
use Rattle.changeover.proofs.order.steps.Goals as goal

pub loop-i-init : goal.loop-i-init
loop-i-init c = (omega arith, on_none (has_load c.args.old) (has_load c.args.new) c.args.loads c.off_steps-order.result c.off_steps-order.ensures)

pub with-order-requires : goal.with-order-requires
with-order-requires c =
    let l = c.loop-i in
    let a = c.args in
    let goes : not c.has.result && c.has-in-loop-i.result ≡ goes_on (has_load a.old) (has_load a.new) (l.i + 1) = ap₂ (λ o w. not o && w) c.has.ensures c.has-in-loop-i.ensures in
    (on_room (has_load a.old) (has_load a.new) a.loads l.i l.order (not c.has.result && c.has-in-loop-i.result) goes (omega arith) (omega arith) l.invariant.1, omega arith)

pub loop-i-preserved : goal.loop-i-preserved
loop-i-preserved c =
    let l = c.loop-i in
    let a = c.args in
    let goes : not c.has.result && c.has-in-loop-i.result ≡ goes_on (has_load a.old) (has_load a.new) (l.i + 1) = ap₂ (λ o w. not o && w) c.has.ensures c.has-in-loop-i.ensures in
    (omega arith, c.with-order.ensures ∙ on-turn (has_load a.old) (has_load a.new) a.loads l.i l.order (not c.has.result && c.has-in-loop-i.result) goes (omega arith) (omega arith) l.invariant.1)
