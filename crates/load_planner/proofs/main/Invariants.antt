-- `main` is safe and ends. Its loop's invariant: as long as the program runs, it carries what the chunks read so far lead to, from a fresh
-- planner with 4,096 bytes and 16,384 cells on. Assumes nothing.
use mathlib.Core.Path.{◌≡◌}
use mathlib.Core.Bool.{true}
use Rattle.load_planner.specs.Session.{carried_of, Ran}
use Rattle.load_planner.proofs.main.Given as goal

abbrev pub invariant-loop : goal.invariant-loop
invariant-loop l = l.session.«open» ≡ true → Ran (carried_of l.session)
