-- What is proved of changeovers: the numbers, the list, the order of the steps, and what is on after every step.
-- It stands for the sentences of request Twelve of paper 02. Assumes nothing.
use Rattle.std.specs.Prelude.{ℕ, ◌+◌, ◌-◌, ◌≤◌, ◌<◌, ◌≡◌, Bool, true, ◌&&◌, ◌||◌, List, [], ◌∷◌, ◌++◌, ◌⊎◌, ◌↔◌, eqb, length, get_or, take, drop}
use Rattle.lists.specs.Tests.{pick}
use Rattle.lists.specs.Each.{Each}
use Rattle.lines.specs.Text.{nought}
use Rattle.tables.specs.Refusals as no
use Rattle.tables.specs.Tables.{Tables, no_load}
use Rattle.meaning.specs.Sets.{power}
use Rattle.calls.specs.State.{StoredState, state_of}
use Rattle.calls.specs.Rows.{is_load}
use Rattle.calls.specs.Causes.{Lowest}
use Rattle.calls.specs.Demand3.{Event, paper}
use Rattle.changeover.specs.declared.order.Step.{Step}
use Rattle.changeover.specs.Sets.{is_set, on_by, mark_by, carries}
use Rattle.changeover.specs.Steps.{step_to, step_if, goes_off, goes_on, AfterEvery, stepped_all}
use Rattle.changeover.specs.Changeover.{steps_of, causes_for, Changed}

-- ---- a set that the supply carries, said of the loads that are on: "the power is within the budget and each load on but the root has its parent on"
pub record Safe (t : Tables) (on : ℕ → Bool) : Type 0 where
  pub power : power t (mark_by on) ≤ t.budget
  pub fed : (k : ℕ) → is_load t k ≡ true → on k ≡ true → (k ≡ 1) ⊎ (on (get_or t.loads (k - 1) no_load).parent ≡ true)

-- ---- the steps from a set to another, of the loads of t
-- "Loads that go off come first, highest number first, and then loads that go on, lowest first."
abbrev pub Before : Step → Step → Type 0
Before s u =
    ((s.mark ≡ 0) × (u.mark ≡ 1))
    ⊎ ((s.mark ≡ 0) × (u.mark ≡ 0) × (u.load < s.load))
    ⊎ ((s.mark ≡ 1) × (u.mark ≡ 1) × (s.load < u.load))

-- each step before all that follow it
abbrev pub Sequenced : List Step → Type 0
Sequenced [] = Unit {0}
Sequenced (s ∷ ss) = Each (Before s) ss × Sequenced ss

-- the steps of load k
abbrev pub steps_for : (k : ℕ) → List Step → List Step
steps_for k [] = []
steps_for k (s ∷ ss) = pick (eqb s.load k) (s ∷ steps_for k ss) (steps_for k ss)

pub record StepsRight (t : Tables) (old new : ℕ → Bool) (ss : List Step) : Type 0 where
  pub order : Sequenced ss
  -- "Every differing load has one step", which gives it its mark in the new set, and no other load has one
  pub each : (k : ℕ) → steps_for k ss ≡ step_if (is_load t k && (goes_off old new k || goes_on old new k)) (step_to k (mark_by new k))
  -- "After every step the power is within the budget and each load on but the root has its parent on."
  pub every : AfterEvery (Safe t) ss old
  -- the loads that go off are off before one comes on: then what both sets share is on
  pub halves : (offs ons : List Step) × (ss ≡ offs ++ ons) × Each (λ s. s.mark ≡ 0) offs × Each (λ s. s.mark ≡ 1) ons
      × ((k : ℕ) → is_load t k ≡ true → stepped_all offs old k ≡ old k && new k)
  -- after the last step the new set is on
  pub last : (k : ℕ) → is_load t k ≡ true → stepped_all ss old k ≡ new k

-- ---- a changeover of any planner, any two sets of bytes and any list, accepted or refused
pub record ChangeoverRight (p : StoredState) (old new : List ℕ) (list : List Step) (c : Changed) : Type 0 where
  -- each number exactly in its case: 1, 4, 5, "16 ..; 17 ..; both after 4 and 5, 16 first"
  pub number : Lowest (causes_for p old new (length list)) c.number
  -- "Each refusal here returns its number and 0 steps, with nothing written."
  pub refused : 0 < c.number → (c.count ≡ 0) × (c.list ≡ list)
  -- "the number of steps is returned, and list places beyond the steps keep their values"
  pub counted : c.number ≡ 0 → c.count ≡ length (steps_of (state_of p).tables old new)
  pub written : c.number ≡ 0 → take c.count c.list ≡ steps_of (state_of p).tables old new
  pub beyond : drop c.count c.list ≡ drop c.count list
  pub places : length c.list ≡ length list
  -- what was written takes the supply from the old set to the new one, and never trips it
  pub right : c.number ≡ 0 → StepsRight (state_of p).tables (on_by old) (on_by new) (take c.count c.list)

-- ---- what the two tests of a set come to
pub record SetsRight (t : Tables) (bits : List ℕ) : Type 0 where
  -- "written as for `check`": load k is on exactly if byte k is `1`
  pub read : is_set (length t.loads) bits ≡ true → (k : ℕ) → is_load t k ≡ true → on_by bits k ≡ eqb (get_or bits (k - 1) 0) (nought + 1)
  -- "16, a set that is over budget or has a load on below one that is off"
  pub carried : (carries t (on_by bits) ≡ true) ↔ Safe t (on_by bits)

-- ---- after a list of calls from a fresh planner with n places for loads: the planner breaks no limit, and the steps are those of the loads and the
-- budget that the accepted lines built
pub record AfterCalls (n : ℕ) (xs : List Event) (old new : List ℕ) (c : Changed) : Type 0 where
  pub usable : c.number ≡ no.unusable → ⊥
  pub written : c.number ≡ 0 → take c.count c.list ≡ steps_of (paper n xs).tables old new
  pub right : c.number ≡ 0 → StepsRight (paper n xs).tables (on_by old) (on_by new) (take c.count c.list)
