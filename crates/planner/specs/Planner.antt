-- The planner is the state of crate `calls`: what it holds, and what that is on paper; and a fresh one, "0 states and stages, no rules, no loads
-- and budget 0" of paper 01, with no current plan and no cell filled. Assumes nothing.
use Rattle.tables.specs.Limits.{max_loads}
use Rattle.calls.specs.State as on-paper
use Rattle.calls.specs.State.{State, StoredState, stored_state, state_of, Kept}
use Rattle.planner.specs.declared.Planner.{Planner}

abbrev pub held : Planner → StoredState
held p = record { tables = p.tables; outcome = p.outcome; filled = p.filled }

abbrev pub planner_of : StoredState → Planner
planner_of x = record { tables = x.tables; outcome = x.outcome; filled = x.filled }

abbrev pub state_in : Planner → State
state_in p = state_of (held p)

-- it keeps the limits
abbrev pub Lawful : Planner → Type 0
Lawful p = Kept max_loads (held p)

abbrev pub fresh : Planner
fresh = planner_of (stored_state (on-paper.fresh max_loads))
