-- A call, as the definition of crate `calls` has it: what the code was given, and what it returned and left. A list of calls, each handed the
-- planner that the one before returned, is its `History`: the promise of `Planner::call` is a link of it. Assumes nothing.
use Rattle.std.specs.Prelude.{ℕ, List, Err}
use Rattle.tables.specs.declared.refusal.Refusal.TheVariants.{Unusable}
use Rattle.tables.specs.Refusals.{number_in}
use Rattle.calls.specs.Calls.{Call, Done}
use Rattle.planner.specs.declared.Planner.{Planner}
use Rattle.planner.specs.declared.call.Called.{Called}
use Rattle.planner.specs.Planner.{held}

abbrev pub call_of : (line output : List ℕ) (place : ℕ) (work : List ℕ) → Call
call_of s o p w = record { line = s; output = o; place = p; work = w }

abbrev pub done_of : Called → (output work : List ℕ) → Done
done_of r o w = record { state = held r.planner; reply = record { number = number_in r.told; count = r.count; output = o; work = w } }

-- "number, 0 bytes", "everything" left
abbrev pub turned_away : Planner → Called
turned_away p = record { planner = p; told = Err Unusable; count = 0 }
