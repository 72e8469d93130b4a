-- A call through the C library, as the definitions of crate `calls` have it: the planner that C then has, and what it is told, of a line and of a portion.
-- Assumes nothing.
use Rattle.std.specs.Prelude.{ℕ, List}
use Rattle.calls.specs.Calls.{Done}
use Rattle.calls.specs.Portions.{PortionDone}
use Rattle.planner.specs.declared.Planner.{Planner}
use Rattle.planner.specs.Planner.{held}
use Rattle.hulmeide.specs.declared.Portion.{Portion}
use Rattle.hulmeide.specs.declared.Reply.{Reply}

abbrev pub done_of : Planner → Reply → (output work : List ℕ) → Done
done_of p r o w = record { state = held p; reply = record { number = r.number; count = r.count; output = o; work = w } }

abbrev pub portion_done : Planner → Portion → (output work : List ℕ) → PortionDone
portion_done p r o w = record { state = held p; filled = r.filled; reply = record { number = r.number; count = r.count; output = o; work = w } }
