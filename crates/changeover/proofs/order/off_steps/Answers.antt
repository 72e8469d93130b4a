-- `off_steps` meets its contract: the steps that were put and those that are to come are all. Assumes nothing.
use Prim.Native.Nat.{◌+◌, ◌-◌}
use mathlib.Core.Path.{◌≡◌, refl, sym, ap₂, subst}
use mathlib.Core.List.{[]}
use mathlib.Core.Bool.{◌&&◌, not}
use native.Mathlib.Omega.{arith}
use Rattle.marks.specs.Sets.{has_load}
use Rattle.lists.specs.Arrays.{laid}
use Rattle.changeover.specs.Steps.{goes_off}
use Rattle.changeover.specs.Order.{laid_order}
use Rattle.changeover.proofs.Orders.{OffSoFar, off-turn, off-room, off-all}
use Rattle.changeover.proofs.order.off_steps.Goals as goal

pub loop-i-init : goal.loop-i-init
unfolding laid_order laid
loop-i-init c = record { done = []; held = refl; few = omega arith; whole = refl }

pub with-order-requires : goal.with-order-requires
with-order-requires c =
    let l = c.loop-i in
    let a = c.args in
    (λ _. off-room (has_load a.old) (has_load a.new) a.loads l.i l.order (omega arith) (omega arith) l.invariant, omega arith)

pub loop-i-preserved : goal.loop-i-preserved
loop-i-preserved c =
    let l = c.loop-i in
    let a = c.args in
    let k : l.i - 1 + 1 ≡ l.i = omega arith in
    let goes : c.has.result && not c.has-in-loop-i.result ≡ goes_off (has_load a.old) (has_load a.new) l.i = rw k at (ap₂ (λ o w. o && not w) c.has.ensures c.has-in-loop-i.ensures) in
    subst (OffSoFar (has_load a.old) (has_load a.new) a.loads (l.i - 1)) (sym (rw k at c.with-order.ensures)) (off-turn (has_load a.old) (has_load a.new) a.loads l.i l.order (c.has.result && not c.has-in-loop-i.result) (omega arith) goes (omega arith) l.invariant)

pub returns : goal.returns
returns c =
    let l = c.loop-i in
    let a = c.args in
    let z : l.i ≡ 0 = omega arith in
    off-all (has_load a.old) (has_load a.new) a.loads l.order (subst (λ k. OffSoFar (has_load a.old) (has_load a.new) a.loads k l.order) z l.invariant)
