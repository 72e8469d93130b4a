-- What a plan and its root's cells say of a worth is what the tables say of it: the cell of the root at an allowance is the plan's at that budget.
-- Assumes nothing.
use Prim.Native.Nat.{ℕ, zero, suc, ◌≤◌}
use mathlib.Core.Path.{◌≡◌, refl, sym, ap, ◌∙◌}
use mathlib.Core.Bool.{Bool}
use mathlib.Core.List.{List}
use Rattle.std.specs.Prelude.{Option, None, Some, Ok, Err}
use native.Mathlib.Omega.{arith}
use borrow.Author.Tests.{ne_eqb}
use lib.Dec.{eqb, ltb}
use lib.ListN.{length}
use Rattle.lists.specs.Tests.{pick, first_from}
use Rattle.lists.proofs.Tests.{first-is, first-agree}
use Rattle.tables.specs.Limits.{max_loads, Limits}
use Rattle.tables.specs.declared.refusal.Refusal.TheVariants.{NoneFits, TooPoor}
use Rattle.tables.specs.Changes.{set_budget}
use Rattle.tables.specs.declared.tables.StoredTables.{StoredTables}
use Rattle.tables.specs.Stored.{tables_of}
use Rattle.marks.specs.Sets.{mark_in}
use Rattle.meaning.specs.Sets.{worth}
use Rattle.meaning.specs.Cell.{floor}
use Rattle.meaning.specs.Best.{best_plan}
use Rattle.meaning.specs.Choice.{plan_entries}
use Rattle.meaning.specs.Need.{none_fits, poorer, least_budget}
use Rattle.meaning.proofs.Claims.{claims}
use Rattle.meaning.proofs.Need.{least-cell}
use Rattle.runs.specs.declared.outcome.StoredOutcome.{StoredOutcome}
use Rattle.runs.specs.declared.run.Run.{Run}
use Rattle.runs.specs.Outcome.{found, stored_outcome, stored_found}
use Rattle.cells.specs.declared.problem.Problem.{Problem}
use Rattle.cells.specs.declared.problem.Shape.{Shape}
use Rattle.cells.specs.Problem.{plan_problem}
use Rattle.engine.specs.Search.{root_best}
use Rattle.engine.specs.Pass.{best_at, Complete}
use Rattle.engine.specs.Need.{need_of, need_by}
use Rattle.engine.proofs.Reading.{root-cell, whole, budget-is}
use Rattle.engine.proofs.Answers.{lines-set}

-- the first of the numbers below n is at most n
pub at_most : (q : ℕ → Bool) (n r : ℕ) → r ≡ first_from q 0 n → r ≤ n
at_most q n r e = omega (arith, (first-is q 0 n).high)

-- ---- the root's cells
module _ (p : Problem) (sh : Shape) (o w : List ℕ) (all : Complete p sh o w) where
  root-held : (c : ℕ) → c ≤ sh.budget → (root_best sh w c).value ≡ best_at p c
  root-held c l =
      ap (λ (y : Shape). (root_best y w c).value) all.outlined.shape
      ∙ root-cell p o w (whole p sh o w all) c (omega (arith, budget-is p sh o w all))

  -- of a plan's problem
  module _ (t : StoredTables) (e : p ≡ plan_problem t) where
    -- the bridge: the best of the root's cells at allowance b is the plan's of the tables with budget b
    pub root-plan : (b : ℕ) → b ≤ sh.budget → (root_best sh w b).value ≡ best_plan (set_budget (tables_of t) b)
    unfolding tables_of best_plan
    root-plan b l = root-held b l ∙ ap (λ (p : Problem). best_at p b) e

    own-budget : sh.budget ≡ (tables_of t).budget
    unfolding tables_of
    own-budget = budget-is p sh o w all ∙ ap (λ (p : Problem). p.tables.budget) e

    -- so the first allowance above the floor of a worth is the least budget
    pub least-is : Limits (tables_of t) → (v u r : ℕ) → u ≡ floor v → r ≡ first_from (λ b. ltb u (root_best sh w b).value) 0 sh.budget → r ≡ least_budget (tables_of t) v
    least-is h v u r eu er =
        er ∙ ap (λ y. first_from (λ b. ltb y (root_best sh w b).value) 0 sh.budget) eu
        ∙ first-agree _ (λ b. ltb (floor v) (best_plan (set_budget (tables_of t) b))) 0 sh.budget (λ b l. ap (ltb (floor v)) (root-plan b (omega arith)))
        ∙ ap (first_from _ 0) own-budget ∙ sym (least-cell (tables_of t) h v)

-- ---- the plan's own worth, and what is said
module _ (t : StoredTables) (h : Limits (tables_of t)) (few : length (tables_of t).loads ≤ max_loads) (v : ℕ) where
  pub need-is : (o : Option Run) → stored_found o ≡ stored_outcome max_loads (found (best_plan (tables_of t)) (plan_entries (tables_of t)))
      → (b : ℕ) → b ≡ least_budget (tables_of t) v → need_by o t.loads v b ≡ need_of (tables_of t) v
  unfolding need_by need_of none_fits poorer tables_of
  need-is o eo b eb = ap (need_by o t.loads v) eb ∙ go o (best_plan (tables_of t)) refl eo
    where
      go : (o : Option Run) (x : ℕ) → best_plan (tables_of t) ≡ x → stored_found o ≡ stored_outcome max_loads (found x (plan_entries (tables_of t)))
          → need_by o t.loads v (least_budget (tables_of t) v)
          ≡ pick (eqb x 0) (Err NoneFits) (pick (poorer (tables_of t) v) (Err TooPoor) (Ok (least_budget (tables_of t) v)))
      go None zero e is = refl
      go None (suc x) e is = absurd (omega (arith, ap (λ (o : StoredOutcome). o.status) is))
      go (Some r) zero e is = absurd (omega (arith, ap (λ (o : StoredOutcome). o.status) is))
      go (Some r) (suc x) e is =
          let l = ((claims (tables_of t) h).planned (omega arith)).loads in
          let set = ap (λ (o : StoredOutcome). mark_in o.run.set) is ∙ lines-set (tables_of t) (plan_entries (tables_of t)) l few in
          rw (ne_eqb (suc x) 0 (λ z. absurd (omega arith)))
          (ap (λ (σ : ℕ → ℕ). pick (ltb (worth (tables_of t) σ) v) (Err TooPoor) (Ok (least_budget (tables_of t) v))) set)
