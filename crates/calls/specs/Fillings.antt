-- What portions give in a list of calls: while a filling's work is handed on, its cells hold the best of their branch or row, and the portion after the
-- last cell gives exactly `plan`'s answer.
-- It stands for request Eleven of paper 02: "Provided the planner goes unaltered from call to call since fresh and each portion past refusals 1, 4, 5 and 8,
-- save a filling's first, gets the work as the last such left it, .." It is said of each filling by itself: one that got other work leaves the next its
-- claim. Assumes nothing.
use Rattle.std.specs.Prelude.{ℕ, zero, suc, ◌+◌, ◌<◌, ◌≡◌, Bool, true, false, ◌||◌, List, [], ◌∷◌, eqb}
use Rattle.lists.specs.Tests.{pick}
use Rattle.lines.specs.Text.{same}
use Rattle.meaning.specs.Cells.{Holding}
use Rattle.meaning.specs.Portions.{BestHeld}
use Rattle.calls.specs.State.{State}
use Rattle.calls.specs.Calls.{after, answer}
use Rattle.calls.specs.Demand2.{PlanRight}
use Rattle.calls.specs.Portions.{PortionCall, PortionDone, Portion, Event, on_line, on_portion, plan_call, portion_number, open_cells, after_portion}

-- the filling under way: the work as its last portion left it, or that one of its portions got other work
pub data Filling : Type 0 where
  handed_on : (left : List ℕ) → Filling
  broken : Filling

abbrev pub is_left : Filling → (work : List ℕ) → Bool
is_left (handed_on v) w = same w v
is_left broken w = false

-- "save a filling's first, gets the work as the last such left it": a filling's first finds no cell filled
abbrev pub handed : Filling → State → PortionCall → Bool
handed f s c = eqb s.filled 0 || is_left f c.work

-- the filling after a portion with this number
abbrev pub filling_by : (number : ℕ) → Filling → State → Portion → Filling
filling_by zero f s x = pick (handed f s x.call) (handed_on x.done.reply.work) broken
filling_by (suc n) f s x = f

-- what such a portion gives
pub record PortionRight (s : State) (c : PortionCall) (d : PortionDone) : Type 0 where
  -- "the filled cells hold after each such portion the best of their branch or row, as worth × 512 + 512 − power, or 0 for none"
  pub cells : 0 < open_cells s → Holding s.tables d.reply.work (s.filled + d.filled)
  pub best : 0 < open_cells s → BestHeld s.tables d.reply.work (s.filled + d.filled)
  -- "and the next such after the last cell gives exactly `plan`'s answer", of which demands 2 and 3 speak
  pub answer : open_cells s ≡ 0 → d.reply ≡ answer s (plan_call c)
  pub plan : open_cells s ≡ 0 → PlanRight s.tables (plan_call c) d.reply

-- of every portion in a list of calls, for the state before the first and the filling under way
abbrev pub Fillings : Filling → State → List Event → Type 0
Fillings f s [] = Unit {0}
Fillings f s (on_line x ∷ xs) = Fillings f (after s x.call) xs
Fillings f s (on_portion x ∷ xs) =
    (portion_number s x.call ≡ 0 → handed f s x.call ≡ true → PortionRight s x.call x.done)
    × Fillings (filling_by (portion_number s x.call) f s x) (after_portion s x.call) xs
