-- The claims of specs/Claims hold of all tables that keep the limits. Assumes nothing.
use Prim.Native.Nat.{ℕ, ◌<◌}
use mathlib.Core.Path.{◌≡◌, sym, subst, ◌∙◌}
use mathlib.Core.List.{List}
use native.Mathlib.Nat.{le_trans}
use native.Mathlib.Omega.{arith}
use lib.ListN.{length}
use Rattle.tables.specs.Tables.{Tables}
use Rattle.tables.specs.Limits.{Limits}
use Rattle.tables.specs.Lawful.{Lawful}
use Rattle.tables.proofs.Lawful.{lawful}
use Rattle.meaning.specs.Forest.{IsTree}
use Rattle.meaning.specs.Best.{best_plan, best_check}
use Rattle.tables.specs.declared.entry.Entry.{Entry}
use Rattle.meaning.specs.Choice.{in_order, plan, check, plan_entries, check_entries, marks_of, assigned_by, shown_set}
use Rattle.meaning.specs.Runs.{Assigned, TreeRun}
use Rattle.meaning.specs.Sets.{tree_of, power, worth, Fits, Optimum}
use Rattle.meaning.specs.Cell.{cell, power_limit}
use Rattle.meaning.specs.Order.{◌≼◌, tree_numbers}
use Rattle.meaning.specs.Claims.{EachLoad, PlanShown, CheckShown, Claims}
use Rattle.meaning.proofs.Ordered.{loads-ordered}
use Rattle.meaning.proofs.Entries.{Listed, plan-listed, check-listed}
use Rattle.meaning.proofs.Ranges.{plan-bounded}
use Rattle.meaning.proofs.InOrder.{listed-length, listed-numbered, same-assigned, same-marks, shown-marks}
use Rattle.meaning.proofs.Plan.{plan-refused, plan-optimal, plan_run, plan-lowest}
use Rattle.meaning.proofs.Check.{allowed-accepted, check-allowed, check-run, check-marks, check-lowest}
use Rattle.meaning.proofs.Judge.{judge-tree-decides}
use Rattle.meaning.proofs.Agree.{tree-grows}

each-load : (t : Tables) (es : List Entry) → Listed es (length t.loads) → EachLoad t (in_order es 1 (length t.loads))
each-load t es l = record { all = listed-length es (length t.loads) l; each = listed-numbered es (length t.loads) l }

module _ (t : Tables) (w : Lawful t) where
  o : IsTree t.loads
  o = loads-ordered t.loads w.load

  small : t.budget < power_limit
  small = omega (arith, w.budget)

  -- the entries shown list the plan's own set
  plan-set : shown_set (plan_entries t) ≡ marks_of (plan t)
  unfolding plan_entries
  plan-set =
      let same = same-marks (plan t) (length t.loads) (plan-listed t o) in
      shown-marks (in_order (plan t) 1 (length t.loads)) (λ n. rw same (plan-bounded t w n).mark) ∙ same

  -- what holds of the plan's set and assignment holds of those shown
  as-shown : (P : (ℕ → ℕ) → (ℕ → Assigned) → Type 0) → P (marks_of (plan t)) (assigned_by (plan t)) → P (shown_set (plan_entries t)) (assigned_by (plan_entries t))
  unfolding plan_entries
  as-shown P p =
      subst (λ (ρ : ℕ → Assigned). P (shown_set (plan_entries t)) ρ) (sym (same-assigned (plan t) (length t.loads) (plan-listed t o)))
      (subst (λ (σ : ℕ → ℕ). P σ (assigned_by (plan t))) (sym plan-set) p)

  plan-shown : 0 < best_plan t → PlanShown t (plan_entries t)
  unfolding plan_entries
  plan-shown h =
      let best = plan-optimal t o small h in
      record {
        loads = each-load t (plan t) (plan-listed t o);
        run = as-shown (λ σ ρ. TreeRun t.book σ ρ (tree_of t)) (plan_run t o small h);
        optimum = as-shown (λ σ ρ. Optimum t σ) best.0;
        value = as-shown (λ σ ρ. best_plan t ≡ cell (power t σ) (worth t σ)) best.1;
        lowest = as-shown (λ σ ρ. (τ : ℕ → ℕ) (υ : ℕ → Assigned) → TreeRun t.book τ υ (tree_of t) → Fits t τ → worth t τ ≡ worth t σ → power t τ ≡ power t σ
            → tree_numbers σ ρ (tree_of t) ≼ tree_numbers τ υ (tree_of t)) (plan-lowest t o small h);
      }

  check-shown : (σ : ℕ → ℕ) → 0 < best_check t σ → CheckShown t σ (check_entries t σ)
  unfolding check_entries
  check-shown σ h =
      let l = check-listed t o σ in
      let n = length t.loads in
      record {
        loads = each-load t (check t σ) l;
        marks = λ k a b. rw (same-marks (check t σ) n l) (check-marks t o σ h k a b);
        run = rw (same-assigned (check t σ) n l) (check-run t o σ h);
        lowest = λ ρ r. rw (same-marks (check t σ) n l, same-assigned (check t σ) n l) (check-lowest t o σ h ρ r);
      }

  claims-hold : Claims t
  unfolding best_plan
  claims-hold = record {
    accepted = allowed-accepted t o;
    refused = plan-refused t o small;
    planned = plan-shown;
    allowed = check-allowed t o;
    checked = check-shown;
    judged = λ ρ. let d = judge-tree-decides t.book ρ (tree_of t) in (d.holds, d.passes);
    grows = λ b c h. tree-grows t.book (tree_of t) b c h;
    better = λ b c h σ τ x y. (y.greatest σ x.allowed (le_trans x.fits h), y.coolest σ x.allowed (le_trans x.fits h));
  }

pub claims : (t : Tables) → Limits t → Claims t
claims t h = claims-hold t (lawful t h)
