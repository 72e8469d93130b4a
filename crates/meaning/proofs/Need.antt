-- The least budget for a worth: it suffices, none below it does, and it is read off the best cells at each allowance. Assumes nothing.
use Prim.Native.Nat.{ℕ, ◌≤◌, ◌<◌}
use mathlib.Core.Path.{◌≡◌, refl, sym, ap, ◌∙◌}
use mathlib.Core.Bool.{Bool, true, false, ◌&&◌, not}
use mathlib.Core.Logic.{◌⊎◌, inl, inr}
use native.Mathlib.Nat.{le_refl}
use native.Mathlib.Omega.{arith}
use borrow.Author.Tests.{eqb-true, eqb-false, leb-true, leb-false, ltb-true, ltb-false, not-true, le-leb, le-ltb, lt-ltb}
use lib.Dec.{eqb, leb, ltb}
use Rattle.lists.specs.Tests.{first_from}
use Rattle.lists.proofs.Bools.{and_left, and_right, below_or}
use Rattle.lists.proofs.Tests.{first-is, first-agree}
use Rattle.tables.specs.Tables.{Tables}
use Rattle.tables.specs.Limits.{Limits, max_budget}
use Rattle.tables.specs.Changes.{set_budget}
use Rattle.tables.proofs.Lawful.{lawful}
use Rattle.tables.proofs.Keeps.{set-budget-keeps}
use Rattle.meaning.specs.Sets.{power, worth, Allowed, NoneFits}
use Rattle.meaning.specs.Cell.{floor}
use Rattle.meaning.specs.Best.{best_plan}
use Rattle.meaning.specs.Choice.{plan_entries, shown_set}
use Rattle.meaning.specs.Claims.{PlanShown}
use Rattle.meaning.specs.Need.{none_fits, plan_worth, poorer, suffices, least_budget, Reached, Missed, Least}
use Rattle.meaning.proofs.Cell.{cell_below}
use Rattle.meaning.proofs.Claims.{claims}

-- ---- the plan of tables
module _ (t : Tables) (h : Limits t) where
  some-plan : none_fits t ≡ false → PlanShown t (plan_entries t)
  unfolding none_fits
  some-plan e = (claims t h).planned (let n = eqb-false (best_plan t) 0 e in omega arith)

  no-plan : none_fits t ≡ true → NoneFits t
  unfolding none_fits
  no-plan e = (claims t h).refused.0 (eqb-true (best_plan t) 0 e)

  -- its worth by its cell
  pub poorer-cell : (v : ℕ) → none_fits t ≡ false → poorer t v ≡ leb (best_plan t) (floor v)
  unfolding poorer
  poorer-cell v e =
      let s = some-plan e in
      cell_below (power t (shown_set (plan_entries t))) (plan_worth t) v (omega (arith, s.optimum.fits, (lawful t h).budget))
      ∙ ap (λ x. leb x (floor v)) (sym s.value)

  module _ (v : ℕ) where
    -- 15 exactly where there is a plan, which is worth less
    pub need-missed : none_fits t ≡ false → poorer t v ≡ true → Missed t v t.budget (plan_entries t)
    unfolding poorer
    need-missed e q = record { shown = some-plan e; poorer = ltb-true (plan_worth t) v q }

    pub need-found : Missed t v t.budget (plan_entries t) → (none_fits t ≡ false) × (poorer t v ≡ true)
    unfolding none_fits poorer
    need-found m = (go (eqb (best_plan t) 0) refl, lt-ltb (plan_worth t) v m.poorer)
      where
        go : (b : Bool) → eqb (best_plan t) 0 ≡ b → b ≡ false
        go false e = refl
        go true e = absurd ((claims t h).refused.0 (eqb-true (best_plan t) 0 e) _ m.shown.optimum.allowed m.shown.optimum.fits)

-- ---- the plan at each budget
at_least : (a b : ℕ) → not (leb a b) ≡ ltb b a
at_least a b = go (leb a b) refl
  where
    go : (i : Bool) → leb a b ≡ i → not i ≡ ltb b a
    go true e = sym (le-ltb b a (leb-true a b e))
    go false e = sym (lt-ltb b a (leb-false a b e))

pub least-most : (t : Tables) (v : ℕ) → least_budget t v ≤ t.budget
unfolding least_budget
least-most t v = omega (arith, (first-is (suffices t v) 0 t.budget).high)

module _ (t : Tables) (h : Limits t) (v : ℕ) where
  module _ (b : ℕ) (l : b ≤ t.budget) where
    kept : Limits (set_budget t b)
    kept = set-budget-keeps t h b (le-leb b max_budget (omega (arith, (lawful t h).budget)))

    -- the bridge to the cells: a budget suffices exactly where the best cell of the tables with it exceeds the floor
    pub suffices-cell : suffices t v b ≡ ltb (floor v) (best_plan (set_budget t b))
    unfolding suffices none_fits
    suffices-cell = go (none_fits (set_budget t b)) refl
      where
        go : (i : Bool) → none_fits (set_budget t b) ≡ i → not i && not (poorer (set_budget t b) v) ≡ ltb (floor v) (best_plan (set_budget t b))
        go true e = sym (le-ltb (floor v) (best_plan (set_budget t b)) (omega (arith, eqb-true (best_plan (set_budget t b)) 0 e)))
        go false e = ap not (poorer-cell (set_budget t b) kept v e) ∙ at_least (best_plan (set_budget t b)) (floor v)

    reached : suffices t v b ≡ true → Reached t v b (plan_entries (set_budget t b))
    unfolding suffices poorer
    reached e =
        let n = and_left (not (none_fits (set_budget t b))) _ e in
        let p = and_right (not (none_fits (set_budget t b))) _ e in
        record { shown = some-plan (set_budget t b) kept (not-true _ n); enough = ltb-false (plan_worth (set_budget t b)) v (not-true _ p) }

    not-reached : suffices t v b ≡ false → NoneFits (set_budget t b) ⊎ Missed t v b (plan_entries (set_budget t b))
    unfolding suffices
    not-reached e = go (none_fits (set_budget t b)) (poorer (set_budget t b) v) refl refl e
      where
        go : (i j : Bool) → none_fits (set_budget t b) ≡ i → poorer (set_budget t b) v ≡ j → not i && not j ≡ false
            → NoneFits (set_budget t b) ⊎ Missed t v b (plan_entries (set_budget t b))
        go true j n p q = inl (no-plan (set_budget t b) kept n)
        go false true n p q = let m = need-missed (set_budget t b) kept v n p in inr (record { shown = m.shown; poorer = m.poorer })
        go false false n p q = absurd (let z : ◌≡◌ {A = ℕ} 0 1 = cc in omega arith)

  -- by the cells at each allowance below the budget
  pub least-cell : least_budget t v ≡ first_from (λ b. ltb (floor v) (best_plan (set_budget t b))) 0 t.budget
  unfolding least_budget
  least-cell = first-agree (suffices t v) _ 0 t.budget (λ b l. suffices-cell b (omega arith))

  module _ (some : none_fits t ≡ false) (rich : poorer t v ≡ false) where
    abbrev least : ℕ
    least = least_budget t v

    whole : suffices t v t.budget ≡ true
    unfolding suffices
    whole = rw (some, rich)

    enough : suffices t v least ≡ true
    unfolding least_budget
    enough = go (below_or (least_budget t v) t.budget)
      where
        go : (least_budget t v < t.budget) ⊎ (t.budget ≤ least_budget t v) → suffices t v (least_budget t v) ≡ true
        go (inl l) = (first-is (suffices t v) 0 t.budget).found (omega (arith, l))
        go (inr l) = let e : least_budget t v ≡ t.budget = omega (arith, least-most t v) in rw e whole

    less : (a : ℕ) → a < least → NoneFits (set_budget t a) ⊎ Missed t v a (plan_entries (set_budget t a))
    unfolding least_budget
    less a l = not-reached a (omega (arith, least-most t v)) ((first-is (suffices t v) 0 t.budget).passed a (omega arith) l)

    below : (σ : ℕ → ℕ) → Allowed t σ → v ≤ worth t σ → least ≤ power t σ
    below σ a w = go (below_or (power t σ) least)
      where
        poor : power t σ < least → NoneFits (set_budget t (power t σ)) ⊎ Missed t v (power t σ) (plan_entries (set_budget t (power t σ))) → ⊥
        poor l (inl n) = n σ a (le_refl _)
        poor l (inr m) = omega (arith, m.shown.optimum.greatest σ a (le_refl _), m.poorer)

        go : (power t σ < least) ⊎ (least ≤ power t σ) → least ≤ power t σ
        go (inl l) = absurd (poor l (less (power t σ) l))
        go (inr l) = l

    pub need-least : Least t v (least_budget t v)
    need-least =
        let r = reached least (least-most t v) enough in
        let o = r.shown.optimum in
        record { most = least-most t v; reached = r; less = less; below = below; draws = omega (arith, o.fits, below _ o.allowed r.enough) }
