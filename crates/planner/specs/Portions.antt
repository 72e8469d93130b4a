-- A portion, as the definition of crate `calls` has it: what the code was given, and what it returned and left. A portion among the calls of a list is a
-- link of its `History`: the promise of `Planner::portion`. Assumes nothing.
use Rattle.std.specs.Prelude.{ℕ, ◌≡◌, List, Err}
use Rattle.tables.specs.declared.refusal.Refusal.{Refusal}
use Rattle.tables.specs.Refusals.{number_in}
use Rattle.calls.specs.Calls.{Call, Reply}
use Rattle.calls.specs.Portions.{PortionCall, PortionDone, Answers}
use Rattle.planner.specs.declared.Planner.{Planner}
use Rattle.planner.specs.declared.portion.Portion.{Portion}
use Rattle.planner.specs.Planner.{held, state_in}

abbrev pub portion_of : (most : ℕ) (output : List ℕ) (place : ℕ) (work : List ℕ) → PortionCall
portion_of n o p w = record { most = n; output = o; place = p; work = w }

abbrev pub reply_of : Portion → (output work : List ℕ) → Reply
reply_of r o w = record { number = number_in r.told; count = r.count; output = o; work = w }

abbrev pub portion_done : Portion → (output work : List ℕ) → PortionDone
portion_done r o w = record { state = held r.planner; filled = r.filled; reply = reply_of r o w }

-- ---- inside
-- the planner with so many cells filled
abbrev pub with_filled : Planner → (filled : ℕ) → Planner
with_filled p n = record { tables = p.tables; outcome = p.outcome; filled = n }

-- refused so: nothing is written or filled, and everything is left as it was
abbrev pub refused_by : Planner → Refusal → Portion
refused_by p r = record { planner = p; told = Err r; filled = 0; count = 0 }

-- the answer of a planner to a call on `plan`, which starts the filling over
pub record Answered (p : Planner) (c : Call) (r : Portion) (output work : List ℕ) : Type 0 where
  pub planner : r.planner ≡ with_filled p 0
  pub filled : r.filled ≡ 0
  pub answers : Answers (state_in p) c (reply_of r output work)
