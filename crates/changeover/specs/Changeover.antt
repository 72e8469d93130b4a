-- A changeover: what refuses it, and what it gives.
-- It stands for "the number of steps is returned, and list places beyond the steps keep their values", "16 ..; 17, a list too short; both after 4 and
-- 5, 16 first. Each refusal here returns its number and 0 steps, with nothing written." of request Twelve of paper 02. Assumes nothing.
use Rattle.std.specs.Prelude.{ℕ, ◌&&◌, not, Result, List, [], ◌∷◌, eqb, ltb, length}
use Rattle.std.proofs.lemmas.List.Edits.{sets}
use Rattle.tables.specs.Refusals as no
use Rattle.tables.specs.Refusals.{told}
use Rattle.tables.specs.Tables.{Tables}
use Rattle.tables.specs.Operations.{accepted}
use Rattle.calls.specs.State.{StoredState, state_of, keeps}
use Rattle.calls.specs.Rows.{Cause, ◌if◌}
use Rattle.calls.specs.Causes.{lowest}
use Rattle.changeover.specs.declared.order.Step.{Step}
use Rattle.changeover.specs.declared.order.Order.{Order}
use Rattle.changeover.specs.Sets.{is_set, on_by, carries}
use Rattle.changeover.specs.Steps.{steps}
use Rattle.changeover.specs.Order.{laid_order}

-- the steps from an old set to a new one, of the loads of these tables
abbrev pub steps_of : Tables → (old new : List ℕ) → List Step
steps_of t old new = steps (on_by old) (on_by new) (length t.loads)

-- what refuses it, in the order of the numbers: a planner that breaks a limit; no loads; "each written as for `check` (else 5)"; "16, a set that is over
-- budget or has a load on below one that is off", old or new; "17, a list too short"
abbrev pub causes_for : StoredState → (old new : List ℕ) (places : ℕ) → List Cause
causes_for p old new n =
    let t = (state_of p).tables in
    let loads = length t.loads in
    (no.unusable if not (keeps p))
    ∷ (no.no_loads if eqb loads 0)
    ∷ (no.out_of_range if not (is_set loads old && is_set loads new))
    ∷ (no.not_carried if not (carries t (on_by old) && carries t (on_by new)))
    ∷ (no.short_list if ltb n (length (steps_of t old new)))
    ∷ []

-- its number, 0 if accepted
unfoldable pub refusal_of : StoredState → (old new : List ℕ) (places : ℕ) → ℕ
refusal_of p old new n = lowest (causes_for p old new n)

-- its steps: "Each refusal here returns its number and 0 steps"
unfoldable pub steps_given : StoredState → (old new : List ℕ) (places : ℕ) → List Step
steps_given p old new n = accepted (refusal_of p old new n) (steps_of (state_of p).tables old new) []

-- its steps by value, for a list of so many places, or its number
unfoldable pub order_of : StoredState → (old new : List ℕ) (places : ℕ) → Result Order ℕ
order_of p old new n = told (refusal_of p old new n) (laid_order (steps_given p old new n))

-- what it gives: its number, the count of steps, and the list as it leaves it
pub record Changed : Type 0 where
  pub number : ℕ
  pub count : ℕ
  pub list : List Step

abbrev pub changed_to : (number count : ℕ) → List Step → Changed
changed_to n k ss = record { number = n; count = k; list = ss }

-- "the steps are written to a lent list"; "list places beyond the steps keep their values"
unfoldable pub changeover : StoredState → (old new : List ℕ) (list : List Step) → Changed
changeover p old new list =
    let ss = steps_given p old new (length list) in
    changed_to (refusal_of p old new (length list)) (length ss) (sets list 0 ss)
