-- The steps from one set of loads to another, and what is on after them.
-- They stand for "each step a load number and a new mark. Loads that go off come first, highest number first, and then loads that go on, lowest first.
-- Every differing load has one step" of request Twelve of paper 02. Assumes nothing.
use Rattle.std.specs.Prelude.{ℕ, zero, suc, Bool, ◌&&◌, not, List, [], ◌∷◌, ◌++◌, eqb}
use Rattle.lists.specs.Tests.{pick}
use Rattle.changeover.specs.declared.order.Step.{Step}

-- "a load number and a new mark": 0 off, 1 on
abbrev pub step_to : (load mark : ℕ) → Step
step_to k m = record { load = k; mark = m }

abbrev pub no_step : Step
no_step = step_to 0 0

abbrev pub step_if : Bool → Step → List Step
step_if changes s = pick changes (s ∷ []) []

-- sets by the loads that are on
module _ (old new : ℕ → Bool) where
  abbrev pub goes_off : ℕ → Bool
  goes_off k = old k && not (new k)

  abbrev pub goes_on : ℕ → Bool
  goes_on k = not (old k) && new k

  -- "Loads that go off .. highest number first", of the loads 1 to n
  unfoldable pub off_steps : ℕ → List Step
  off_steps zero = []
  off_steps (suc k) = step_if (goes_off (suc k)) (step_to (suc k) 0) ++ off_steps k

  -- "loads that go on, lowest first"
  unfoldable pub on_steps : ℕ → List Step
  on_steps zero = []
  on_steps (suc k) = on_steps k ++ step_if (goes_on (suc k)) (step_to (suc k) 1)

  -- "Loads that go off come first .. and then loads that go on"
  abbrev pub steps : ℕ → List Step
  steps n = off_steps n ++ on_steps n

-- ---- what is on after a step: its load has its mark, every other load is as it was
unfoldable pub stepped : Step → (ℕ → Bool) → ℕ → Bool
stepped s on k = pick (eqb s.load k) (eqb s.mark 1) (on k)

-- after all of some steps, first to last
unfoldable pub stepped_all : List Step → (ℕ → Bool) → ℕ → Bool
stepped_all [] on = on
stepped_all (s ∷ ss) on = stepped_all ss (stepped s on)

-- "After every step": what holds of the set that is then on
abbrev pub AfterEvery : ((ℕ → Bool) → Type 0) → List Step → (ℕ → Bool) → Type 0
AfterEvery P [] on = Unit {0}
AfterEvery P (s ∷ ss) on = P (stepped s on) × AfterEvery P ss (stepped s on)
