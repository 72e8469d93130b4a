-- How little supply would do: the least budget whose plan has so much worth, and what is proved of it.
-- It stands for request Nine of paper 02: "`need,v` prints `need,b`, where b is the least budget, at most the one in force, whose plan has worth v or
-- more." The plan at a budget is that of the tables with this budget. Assumes nothing.
use Rattle.std.specs.Prelude.{ℕ, ◌≤◌, ◌<◌, ◌≡◌, Bool, ◌&&◌, not, List, ◌⊎◌, eqb, ltb}
use Rattle.lists.specs.Tests.{first_from}
use Rattle.tables.specs.Tables.{Tables}
use Rattle.tables.specs.Changes.{set_budget}
use Rattle.tables.specs.declared.entry.Entry.{Entry}
use Rattle.meaning.specs.Sets.{power, worth, Allowed, NoneFits}
use Rattle.meaning.specs.Best.{best_plan}
use Rattle.meaning.specs.Choice.{plan_entries, shown_set}
use Rattle.meaning.specs.Claims.{PlanShown}

-- "no allowed set fits"
unfoldable pub none_fits : Tables → Bool
none_fits t = eqb (best_plan t) 0

-- the worth of the plan is that of the set that it shows
abbrev pub plan_worth : Tables → ℕ
plan_worth t = worth t (shown_set (plan_entries t))

-- "the plan .. has worth below v"
unfoldable pub poorer : Tables → (v : ℕ) → Bool
poorer t v = ltb (plan_worth t) v

-- a budget "whose plan has worth v or more"
unfoldable pub suffices : Tables → (v b : ℕ) → Bool
suffices t v b = let u = set_budget t b in not (none_fits u) && not (poorer u v)

-- "the least budget, at most the one in force": the first below it that suffices, else the one in force
unfoldable pub least_budget : Tables → (v : ℕ) → ℕ
least_budget t v = first_from (suffices t v) 0 t.budget

-- ---- what is proved
-- the plan at budget b exists, and has worth v or more
pub record Reached (t : Tables) (v b : ℕ) (es : List Entry) : Type 0 where
  pub shown : PlanShown (set_budget t b) es
  pub enough : v ≤ worth t (shown_set es)

-- it exists, and is poorer
pub record Missed (t : Tables) (v b : ℕ) (es : List Entry) : Type 0 where
  pub shown : PlanShown (set_budget t b) es
  pub poorer : worth t (shown_set es) < v

-- "b is the least budget, at most the one in force, whose plan has worth v or more"
pub record Least (t : Tables) (v b : ℕ) : Type 0 where
  pub most : b ≤ t.budget
  pub reached : Reached t v b (plan_entries (set_budget t b))
  pub less : (a : ℕ) → a < b → NoneFits (set_budget t a) ⊎ Missed t v a (plan_entries (set_budget t a))
  -- so every allowed set of that worth draws b or more, and the plan at b draws just b
  pub below : (σ : ℕ → ℕ) → Allowed t σ → v ≤ worth t σ → b ≤ power t σ
  pub draws : power t (shown_set (plan_entries (set_budget t b))) ≡ b
