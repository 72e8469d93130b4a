-- Steps laid out by value. They serve only inside: `Changeover` has the answer. Assumes nothing.
use Rattle.std.specs.Prelude.{ℕ, ◌+◌, List, length, set}
use Rattle.lists.specs.Arrays.{laid}
use Rattle.tables.specs.Limits.{max_loads}
use Rattle.changeover.specs.declared.order.Step.{Step}
use Rattle.changeover.specs.declared.order.Order.{Order}
use Rattle.changeover.specs.Steps.{step_to, no_step}

-- steps at the first places; the others hold 0
unfoldable pub laid_order : List Step → Order
laid_order ss = record { count = length ss; items = laid no_step max_loads ss }

-- one step more
unfoldable pub one_more : Order → (load mark : ℕ) → Order
one_more o k m = record { count = o.count + 1; items = set o.items o.count (step_to k m) }
