-- How little supply would do: what `need` says of tables, and of what a plan of them found.
-- It stands for request Nine of paper 02: "the least budget, at most the one in force, whose plan has worth v or more", with its refusals 9 and 15.
-- Assumes nothing.
use Rattle.std.specs.Prelude.{ℕ, ltb, Option, None, Some, Result, Ok, Err}
use Rattle.lists.specs.Tests.{pick}
use Rattle.marks.specs.Sets.{mark_in}
use Rattle.tables.specs.declared.refusal.Refusal.{Refusal}
use Rattle.tables.specs.declared.refusal.Refusal.TheVariants.{NoneFits, TooPoor}
use Rattle.tables.specs.Tables.{Tables}
use Rattle.tables.specs.declared.load.LoadList.{LoadList}
use Rattle.tables.specs.Stored.{loads_of}
use Rattle.meaning.specs.Need.{none_fits, poorer, least_budget}
use Rattle.runs.specs.declared.run.Run.{Run}
use Rattle.engine.specs.Figures.{figures_of}

-- what `need,v` says of tables: 9, then 15, then the least budget
unfoldable pub need_of : Tables → (v : ℕ) → Result ℕ Refusal
need_of t v = pick (none_fits t) (Err NoneFits) (pick (poorer t v) (Err TooPoor) (Ok (least_budget t v)))

-- by what the plan found, and by the least budget
unfoldable pub need_by : Option Run → LoadList → (v least : ℕ) → Result ℕ Refusal
need_by None ls v b = Err NoneFits
need_by (Some r) ls v b = pick (ltb (figures_of (loads_of ls) (mark_in r.set)).worth v) (Err TooPoor) (Ok b)
