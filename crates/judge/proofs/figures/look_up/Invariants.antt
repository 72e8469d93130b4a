-- `look_up` meets its contract: the list is filled from its front with the loads' steps. Assumes nothing.
use Prim.Native.Nat.{ℕ, suc, ◌-◌, ◌*◌, ◌≤◌, ◌<◌}
use mathlib.Core.Path.{◌≡◌}
use mathlib.Core.List.{List}
use lib.ListN.{length, get_or}
use Rattle.tables.specs.declared.tables.StoredTables.{StoredTables}
use Rattle.tables.specs.Tables.{no_load}
use Rattle.tables.specs.Limits.{max_loads}
use Rattle.tables.specs.Stored.{rules_of}
use Rattle.judge.specs.declared.figures.Step.{Step}
use Rattle.judge.specs.Verdict.{proposed}
use Rattle.judge.specs.Figures.{step_of, no_step}
use Rattle.judge.proofs.figures.look_up.Given as goal

-- the step of the load at place j
abbrev pub step_for : StoredTables → List ℕ → ℕ → Step
step_for t run j = step_of (rules_of t.book.load_rules) (rules_of t.book.row_rules) (get_or t.loads.items j no_load) (proposed run (suc j))

-- the first i places hold the steps of their loads
pub record Filled (t : StoredTables) (run : List ℕ) (steps : List Step) (i : ℕ) : Type 0 where
  pub whole : length steps ≡ max_loads
  pub each : (j : ℕ) → j < i → get_or steps j no_step ≡ step_for t run j

abbrev pub invariant-loop-i : goal.invariant-loop-i
invariant-loop-i l = (l.i ≤ l.i-end) × (l.i-end ≤ max_loads) × (length l.run ≡ 3 * l.i-end) × Filled l.t l.run l.steps l.i

abbrev pub decreases-loop-i : goal.decreases-loop-i
decreases-loop-i l = l.i-end - l.i
