-- A portion of a plan: some of its cells filled, and what is read from all of them.
-- It stands for "A call changes no cell but those it fills" and "the filled cells hold .. the best of their branch or row" of request Eleven of paper 02.
-- Assumes nothing.
use Rattle.std.specs.Prelude.{ℕ, ◌≡◌, true, List, Option, None, take, drop}
use Rattle.lists.specs.Tests.{pick}
use Rattle.tables.specs.declared.tables.StoredTables.{StoredTables}
use Rattle.tables.specs.Limits.{max_loads}
use Rattle.tables.specs.Tables.{Tables}
use Rattle.tables.specs.Stored.{tables_of}
use Rattle.meaning.specs.Best.{best_plan}
use Rattle.meaning.specs.Choice.{plan_entries}
use Rattle.meaning.specs.Cells.{cells_of, Holding}
use Rattle.runs.specs.declared.run.Run.{Run}
use Rattle.runs.specs.Outcome.{found, stored_outcome, stored_found, held_range, keeps_outcome}

-- the run that was read, where it is in range for the tables; else that no allowed set fits
unfoldable pub in_range : StoredTables → Option Run → Option Run
in_range t r = pick (keeps_outcome (held_range t) (stored_found r)) r None

-- v is the work w with the cells from .. to of the tables' plan filled
pub record PartFilled (t : Tables) (w v : List ℕ) (from to : ℕ) : Type 0 where
  pub below : take from v ≡ take from w
  pub above : drop to v ≡ drop to w
  pub holds : Holding t w from → Holding t v to

-- r was read from the work w: the plan's run, if all cells hold what they are to hold; and in any case one in range for the tables
pub record ReadFrom (t : StoredTables) (w : List ℕ) (r : Option Run) : Type 0 where
  pub right : Holding (tables_of t) w (cells_of (tables_of t)) → stored_found r ≡ stored_outcome max_loads (found (best_plan (tables_of t)) (plan_entries (tables_of t)))
  pub kept : keeps_outcome (held_range t) (stored_found r) ≡ true
