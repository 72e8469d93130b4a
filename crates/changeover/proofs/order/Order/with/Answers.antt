-- `Order::with` meets its contract. Assumes nothing.
use mathlib.Core.Path.{refl}
use Rattle.changeover.specs.Order.{one_more}
use Rattle.changeover.proofs.order.Order.with.Goals as goal

pub returns : goal.returns
unfolding one_more
returns c = rw c.if-not-changes.false refl
