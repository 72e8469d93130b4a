-- A drawing: its page, and when it is refused.
-- It stands for "Row one is ..", "Rows two to eight show loads k to k+6", "The load k asked for must exist (5), and the plan must be current (12).
-- A refused drawing leaves its page untouched." and "13, a page to draw on not of 160 bytes, tested first" of request Six of paper 02.
-- Assumes nothing.
use Rattle.std.specs.Prelude.{ℕ, ◌≤◌, ◌≡◌, not, List, [], ◌∷◌, ◌++◌, eqb, length}
use Rattle.tables.specs.Refusals as no
use Rattle.tables.specs.Tables.{Tables}
use Rattle.tables.specs.declared.load.Load.{Load}
use Rattle.tables.specs.Operations.{accepted}
use Rattle.meaning.specs.Sets.{worth, power}
use Rattle.meaning.specs.Choice.{shown_set}
use Rattle.runs.specs.Outcome.{Outcome, nothing, no_set, planned, is_nothing, entries_of}
use Rattle.calls.specs.State.{State, StoredState, state_of, keeps}
use Rattle.calls.specs.Rows.{Cause, ◌if◌, is_load}
use Rattle.calls.specs.Causes.{lowest as first_that}
use Rattle.planner.specs.declared.Planner.{Planner}
use Rattle.planner.specs.Planner.{Lawful}
use Rattle.page.specs.Rows.{page_bytes, load_row_count, plan_row, no_plan_row, load_rows}

-- ---- the page of a state with a current plan, or with refusal 9. (With no current plan nothing is drawn.)
-- "Row one": the worth and the power of the set that was planned, "or `no plan` after refusal 9"
abbrev pub first_row : Tables → Outcome → List ℕ
first_row t nothing = no_plan_row
first_row t no_set = no_plan_row
first_row t (planned es) = plan_row (worth t (shown_set es)) (power t (shown_set es))

-- the loads that it shows: "all loads after refusal 9, are blank rows"
abbrev pub loads_shown : Tables → Outcome → List Load
loads_shown t nothing = []
loads_shown t no_set = []
loads_shown t (planned es) = t.loads

-- "Rows two to eight show loads k to k+6"
unfoldable pub page_of : State → (load : ℕ) → List ℕ
page_of s k = first_row s.tables s.outcome ++ load_rows (loads_shown s.tables s.outcome) (shown_set (entries_of s.outcome)) k load_row_count

-- ---- a drawing
-- what refuses it, in the order of the tests: "13 .. tested first", a planner that breaks a limit, 5 and 12. (The number is that of the first
-- that applies: `lowest` of `calls`, whose causes stand in the order of their numbers, takes the first.)
abbrev pub causes : StoredState → (load bytes : ℕ) → List Cause
causes p k n =
    (no.not_a_page if not (eqb n page_bytes))
    ∷ (no.unusable if not (keeps p))
    ∷ (no.out_of_range if not (is_load (state_of p).tables k))
    ∷ (no.no_plan if is_nothing (state_of p).outcome)
    ∷ []

-- its number, 0 if the page was drawn
unfoldable pub refusal_of : StoredState → (load bytes : ℕ) → ℕ
refusal_of p k n = first_that (causes p k n)

-- what it gives: its number, and the page as it leaves it
pub record Drawn : Type 0 where
  pub number : ℕ
  pub page : List ℕ

abbrev pub drawn_of : ℕ → List ℕ → Drawn
drawn_of n page = record { number = n; page = page }

-- a planner, a load and a page to draw on: "A refused drawing leaves its page untouched."
unfoldable pub drawing : StoredState → (load : ℕ) (page : List ℕ) → Drawn
drawing p k page = let n = refusal_of p k (length page) in drawn_of n (accepted n (page_of (state_of p) k) page)

-- ---- inside: nothing refuses the drawing of a planner
pub record Drawable (p : Planner) (load bytes : ℕ) : Type 0 where
  pub page : bytes ≡ page_bytes
  pub lawful : Lawful p
  pub low : 1 ≤ load
  pub high : load ≤ p.tables.loads.count
  pub current : p.outcome.status ≡ 0 → ⊥
