-- The plan is the best of all allowed sets that fit, the lowest of the runs that reach it, and there is none exactly if no allowed set
-- fits. Assumes nothing.
use Prim.Native.Nat.{ℕ, ◌≤◌, ◌<◌}
use mathlib.Core.Path.{◌≡◌, refl, sym, ap, ap₂, ◌∙◌}
use mathlib.Core.Logic.{◌↔◌, ◌⊎◌, inl, inr}
use native.Mathlib.Nat.{le_trans, le_of_eq, eq-zero-or-pos}
use native.Mathlib.Omega.{arith}
use Rattle.tables.specs.Tables.{Tables}
use Rattle.meaning.specs.Forest.{Forest, nil, node, planned, IsTree, total}
use Rattle.meaning.specs.Cell.{cell, power_limit, ◌⊕◌, draw, gain, score, drawn, gained, scored}
use Rattle.meaning.specs.Sets.{tree_of, power, worth, Allowed, Fits, Optimum, NoneFits}
use Rattle.meaning.specs.Best.{best_plan}
use Rattle.meaning.specs.Choice.{plan, marks_of, assigned_by}
use Rattle.meaning.specs.Runs.{Assigned, TreeRun}
use Rattle.meaning.specs.Order.{◌≼◌, tree_numbers}
use Rattle.meaning.proofs.Cell.{cell-add, cell-pos, cell-le, cell-cooler}
use Rattle.meaning.proofs.Optimal.{tree-complete, tree-sound}
use Rattle.meaning.proofs.Tree.{tree-rooted, tree-total}
use Rattle.meaning.proofs.Entries.{plan-follows}
use Rattle.meaning.proofs.Lowest.{tree-lowest}

-- the cell of a set is that of its power and worth
pub scored-is : (σ : ℕ → ℕ) (f : Forest) → drawn σ f < power_limit → scored σ f ≡ cell (drawn σ f) (gained σ f)
unfolding scored total
scored-is σ nil h = refl
scored-is σ (node k i below later) h =
    ap₂ (λ x y. score i (σ k) ⊕ x ⊕ y) (scored-is σ below (omega arith)) (scored-is σ later (omega arith))
    ∙ ap (λ x. x ⊕ cell (drawn σ later) (gained σ later)) (cell-add (draw i (σ k)) (gain i (σ k)) (drawn σ below) (gained σ below) (omega arith))
    ∙ cell-add _ _ (drawn σ later) (gained σ later) h

-- loads that form a tree, and a budget that a cell can tell from the powers above it
module _ (t : Tables) (o : IsTree t.loads) (small : t.budget < power_limit) where
  pub drawn-power : (σ : ℕ → ℕ) → drawn σ (tree_of t) ≡ power t σ
  drawn-power σ = tree-total planned (λ k i. draw i (σ k)) t.loads o

  tree-cell : (σ : ℕ → ℕ) → Fits t σ → scored σ (tree_of t) ≡ cell (power t σ) (worth t σ)
  tree-cell σ h =
      scored-is σ (tree_of t) (omega (arith, drawn-power σ, small))
      ∙ ap₂ cell (drawn-power σ) (tree-total planned (λ k i. gain i (σ k)) t.loads o)

  -- no allowed set that fits exceeds the plan's cell
  pub plan-bound : (τ : ℕ → ℕ) → Allowed t τ → Fits t τ → cell (power t τ) (worth t τ) ≤ best_plan t
  unfolding best_plan
  plan-bound τ a h =
      rw (← (tree-cell τ h))
      (tree-complete t.book τ a.0 (tree_of t) (tree-rooted planned t.loads) t.budget a.1 (le_trans (le_of_eq (drawn-power τ)) h))

  -- refusal 9
  pub plan-none : best_plan t ≡ 0 → NoneFits t
  plan-none e τ a h = absurd (omega (arith, plan-bound τ a h, cell-pos (power t τ) (worth t τ) (omega (arith, small))))

  -- the plan
  pub plan-optimal : 0 < best_plan t
      → Optimum t (marks_of (plan t)) × (best_plan t ≡ cell (power t (marks_of (plan t))) (worth t (marks_of (plan t))))
  unfolding best_plan plan
  plan-optimal h =
      let σ = marks_of (plan t) in
      let s = tree-sound t.book σ (assigned_by (plan t)) (tree_of t) (tree-rooted planned t.loads) t.budget h (plan-follows t o) in
      let w : Fits t σ = le_trans (le_of_eq (sym (drawn-power σ))) s.1 in
      let e : best_plan t ≡ cell (power t σ) (worth t σ) = sym s.2 ∙ tree-cell σ w in (
        record {
          allowed = (assigned_by (plan t), s.0);
          fits = w;
          greatest = λ τ a f. cell-le (power t τ) (worth t τ) (power t σ) (worth t σ) (omega (arith, small)) (omega (arith, small)) (le_trans (plan-bound τ a f) (le_of_eq e));
          coolest = λ τ a f v. cell-cooler (power t τ) (worth t τ) (power t σ) (worth t σ) (omega (arith, small)) v (le_trans (plan-bound τ a f) (le_of_eq e));
        },
        e,
      )

  -- the entries of the plan are a run of its set
  pub plan_run : 0 < best_plan t → TreeRun t.book (marks_of (plan t)) (assigned_by (plan t)) (tree_of t)
  unfolding best_plan plan
  plan_run h =
      (tree-sound t.book (marks_of (plan t)) (assigned_by (plan t)) (tree_of t) (tree-rooted planned t.loads) t.budget h (plan-follows t o)).0

  -- refusal 9 exactly if no allowed set fits
  pub plan-refused : (best_plan t ≡ 0) ↔ NoneFits t
  plan-refused = (plan-none, λ h. go h (eq-zero-or-pos (best_plan t)))
    where
      go : NoneFits t → (best_plan t ≡ 0) ⊎ (0 < best_plan t) → best_plan t ≡ 0
      go h (inl e) = e
      go h (inr l) = let p = (plan-optimal l).0 in absurd (h (marks_of (plan t)) p.allowed p.fits)

  -- no run that reaches the same within the budget is lower
  pub plan-lowest : 0 < best_plan t → (σ : ℕ → ℕ) (ρ : ℕ → Assigned) → TreeRun t.book σ ρ (tree_of t) → Fits t σ
      → worth t σ ≡ worth t (marks_of (plan t)) → power t σ ≡ power t (marks_of (plan t))
      → tree_numbers (marks_of (plan t)) (assigned_by (plan t)) (tree_of t) ≼ tree_numbers σ ρ (tree_of t)
  unfolding best_plan plan
  plan-lowest h σ ρ r f e d =
      tree-lowest t.book (marks_of (plan t)) (assigned_by (plan t)) σ ρ (tree_of t) (tree-rooted planned t.loads) t.budget h (plan-follows t o) r
      (le_trans (le_of_eq (drawn-power σ)) f)
      (tree-cell σ f ∙ ap₂ cell d e ∙ sym (plan-optimal h).1)
