-- A stretch: the cells of one load and one state or stage, by what its rules reach from the cells that the work holds.
-- It stands for "its row gets the allowance less its power if on" and "what is left passes to the later children" of paper 01, read off the
-- work. Assumes nothing.
use Rattle.std.specs.Prelude.{ℕ, ◌+◌, ◌≤◌, ◌<◌, ◌≡◌, Bool, true, false, List, get_or}
use Rattle.tables.specs.declared.rule.Transition.{Transition}
use Rattle.meaning.specs.Best.{load_reach, row_reach}
use Rattle.cells.specs.declared.problem.Problem.{Problem}
use Rattle.cells.specs.declared.problem.Shape.{Shape}
use Rattle.cells.specs.declared.outline.Lead.{Lead}
use Rattle.cells.specs.declared.outline.Joint.{Joint}
use Rattle.cells.specs.Problem.{item_of}
use Rattle.cells.specs.Outline.{joint_in, rules_in, best_in, Outlines}
use Rattle.cells.specs.Work.{place_of, held_branch, held_row, Filled}
use Rattle.cells.specs.Strip.{Rising}

-- a rule that leads there, wherever it begins
abbrev pub leading : Lead → Transition
leading x = record { from = 0; label = x.label; to = x.stage; kind = x.kind }

-- what a rule reaches within an allowance: a load rule joins the load with the row below it, a row rule its branch with the later children
abbrev pub reach_if : Bool → Shape → List ℕ → Joint → ℕ → Transition → ℕ
reach_if false sh w t = load_reach (item_of t.item) (held_row sh w t.rest)
reach_if true sh w t = row_reach (held_branch sh w t.load) (held_row sh w t.rest)

abbrev pub reach_of : Shape → List ℕ → Joint → ℕ → Transition → ℕ
reach_of sh w t = reach_if t.branch sh w t

-- the cells that row rules split between do not fall
pub record Rises (sh : Shape) (w : List ℕ) (t : Joint) (to : ℕ) : Type 0 where
  pub branches : (q : ℕ) → 0 < q → q ≤ sh.states → Rising (held_branch sh w t.load q) to
  pub rows : (g : ℕ) → 0 < g → g ≤ sh.stages → Rising (held_row sh w t.rest g) to

abbrev pub Sound : Shape → List ℕ → Joint → (to : ℕ) → Type 0
Sound sh w t to = t.branch ≡ true → Rises sh w t to

-- what the rules of load k and state or stage x reach at best with allowance a
abbrev pub reached : Shape → List ℕ → List ℕ → (k x a : ℕ) → ℕ
reached sh o w k x a = (best_in o (rules_in sh o x) (reach_of sh w (joint_in sh o k x) a)).value

-- v is the work w with the allowances from .. to of load k and state or stage x worked out by the outline o
pub record Worked (sh : Shape) (o w v : List ℕ) (k x from to : ℕ) : Type 0 where
  pub below : (i : ℕ) → i < place_of sh k x + from → get_or v i 0 ≡ get_or w i 0
  pub above : (i : ℕ) → place_of sh k x + to ≤ i → get_or v i 0 ≡ get_or w i 0
  pub inside : Sound sh w (joint_in sh o k x) to → (a : ℕ) → from ≤ a → a < to → get_or v (place_of sh k x + a) 0 ≡ reached sh o w k x a

-- v is the work w with the cells from .. to filled, whatever problem o is the outline of
abbrev pub FilledBy : Shape → (o w v : List ℕ) → (from to : ℕ) → Type 0
FilledBy sh o w v from to = (p : Problem) → Outlines p sh o → Filled p w v from to
