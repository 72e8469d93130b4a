-- The walk from load to load: what a branch comes to by its load's step, and a row by its first load's step. Assumes nothing.
use Prim.Native.Nat.{ℕ, zero, suc, ◌-◌, ◌≤◌, ◌<◌}
use mathlib.Core.Path.{◌≡◌, refl, sym, ap, ◌∙◌}
use mathlib.Core.Bool.{Bool, true, false, ◌&&◌}
use mathlib.Core.List.{List}
use native.Mathlib.Omega.{arith}
use lib.Dec.{eqb}
use lib.ListN.{length, get_or}
use Rattle.marks.specs.Bits.{has_mark}
use Rattle.marks.specs.declared.Marks.{Marks}
use Rattle.tables.specs.declared.rule.Sort.TheVariants as sort
use Rattle.tables.specs.Tables.{Tables, no_load}
use Rattle.tables.specs.Lawful.{Lawful}
use Rattle.meaning.specs.Forest.{planned}
use Rattle.meaning.specs.Cells.{load_at, first_child, next_sibling}
use Rattle.meaning.specs.Runs.{Assigned, rule}
use Rattle.meaning.specs.Judge.{begins, judge}
use Rattle.meaning.proofs.Tree.{row-after}
use Rattle.judge.specs.declared.figures.Step.{Step}
use Rattle.judge.specs.Figures.{step_of, step_at, step_in, ParentsOf, LookedUp}
use Rattle.judge.specs.Walk.{branch_runs, row_runs}
use Rattle.judge.proofs.Rules.{load-none, load-some, row-none, row-some}

module _ (t : Tables) (ρ : ℕ → Assigned) where
  row-end : (g : ℕ) → has_mark t.book.ends.0 g ≡ row_runs t ρ 0 g
  unfolding row_runs judge
  row-end g = refl

  row_step : (j g : ℕ) → row_runs t ρ (suc j) g
      ≡ (let r = rule t.book.row_rules (ρ (suc j)).row_rule in
      begins t.book.row_rules (ρ (suc j)).row_rule g
      && (eqb r.label (ρ (suc j)).state && (branch_runs t ρ (suc j) && row_runs t ρ (next_sibling t.loads (suc j)) r.to)))
  unfolding row_runs branch_runs judge
  row_step j g = rw (row-after planned t.loads (suc j) (suc j), row-after planned t.loads (get_or t.loads j no_load).parent (suc j))

  module _ (lawful : Lawful t) where
    -- the branch of load k
    branch-none : (k : ℕ) → (step_at t ρ k).begin ≡ 0 → false ≡ branch_runs t ρ k
    unfolding branch_runs step_of
    branch-none k e = sym (load-none _ t.book.load_rules (lawful.rule sort.Load) (ρ k).load_rule (ρ k).state _ (load_at t.loads k).kind e)

    branch-some : (k : ℕ) → 0 < (step_at t ρ k).begin → row_runs t ρ (first_child t.loads k) (step_at t ρ k).begin ≡ branch_runs t ρ k
    unfolding branch_runs step_of
    branch-some k h =
        let row = row_runs t ρ (first_child t.loads k) in
        let p = load-some _ t.book.load_rules (lawful.rule sort.Load) (ρ k).load_rule (ρ k).state
        (row (rule t.book.load_rules (ρ k).load_rule).to) (load_at t.loads k).kind h in
        ap row p.1 ∙ sym p.0

    -- the row from load k onward, at stage g
    row-stops : (k g : ℕ) → 0 < k → ((step_at t ρ k).stage ≡ g → ⊥) → false ≡ row_runs t ρ k g
    unfolding step_of
    row-stops zero g h other = absurd (omega arith)
    row-stops (suc j) g h other =
        sym (row_step j g ∙ row-none _ t.book.row_rules (lawful.rule sort.Row) (ρ (suc j)).row_rule (ρ (suc j)).state _ g other)

    row_goes : (k g : ℕ) → 0 < k → (step_at t ρ k).stage ≡ g → 0 < g
        → (branch_runs t ρ k && row_runs t ρ (next_sibling t.loads k) (step_at t ρ k).next ≡ row_runs t ρ k g) × (0 < (step_at t ρ k).next)
    unfolding step_of
    row_goes zero g h e pos = absurd (omega arith)
    row_goes (suc j) g h e pos =
        let p = row-some _ t.book.row_rules (lawful.rule sort.Row) (ρ (suc j)).row_rule (ρ (suc j)).state
        (branch_runs t ρ (suc j) && row_runs t ρ (next_sibling t.loads (suc j)) (rule t.book.row_rules (ρ (suc j)).row_rule).to) g e pos in
        (sym (row_step j g ∙ p.0), p.1)

-- ---- by the steps that were looked up
module _ {t : Tables} {ρ : ℕ → Assigned} {ends : Marks} {steps : List Step} (l : LookedUp t ρ ends steps) where
  pub end-of-row : (g : ℕ) → has_mark ends.0 g ≡ row_runs t ρ 0 g
  end-of-row g = rw (← l.end_stages) (row-end t ρ g)

  pub parents : ParentsOf t.loads steps
  unfolding step_of
  parents = record { count = l.count; parent = λ j b. ap (λ s. s.parent) (l.each j b) }

  module _ (k : ℕ) (pos : 0 < k) (few : k ≤ length steps) where
    step-here : step_in steps k ≡ step_at t ρ k
    step-here = go k pos few
      where
        go : (k : ℕ) → 0 < k → k ≤ length steps → step_in steps k ≡ step_at t ρ k
        go zero pos few = absurd (omega arith)
        go (suc j) pos few = let e : suc j - 1 ≡ j = omega arith in rw e (l.each j (omega arith))

    begin-at : (step_in steps k).begin ≡ (step_at t ρ k).begin
    begin-at = ap (λ s. s.begin) step-here

    stage_at : (step_in steps k).stage ≡ (step_at t ρ k).stage
    stage_at = ap (λ s. s.stage) step-here

    pub branch-fails : (step_in steps k).begin ≡ 0 → false ≡ branch_runs t ρ k
    branch-fails none = branch-none t ρ l.lawful k (sym begin-at ∙ none)

    pub branch-passes : ((step_in steps k).begin ≡ 0 → ⊥) → {c : ℕ} → c ≡ first_child t.loads k → row_runs t ρ c (step_in steps k).begin ≡ branch_runs t ρ k
    branch-passes some child = rw (child, begin-at) (branch-some t ρ l.lawful k (omega (arith, begin-at)))

    module _ {g : ℕ} where
      pub row-fails : ((step_in steps k).stage ≡ g → ⊥) → false ≡ row_runs t ρ k g
      row-fails other = row-stops t ρ l.lawful k g pos (λ e. other (stage_at ∙ e))

      module _ (same : (step_in steps k).stage ≡ g) (some : 0 < g) {b : Bool} (branch : b ≡ branch_runs t ρ k) where
        row_here : (branch_runs t ρ k && row_runs t ρ (next_sibling t.loads k) (step_at t ρ k).next ≡ row_runs t ρ k g) × (0 < (step_at t ρ k).next)
        row_here = row_goes t ρ l.lawful k g pos (sym stage_at ∙ same) some

        pub row-branch-fails : b ≡ false → false ≡ row_runs t ρ k g
        row-branch-fails off = rw (← branch, off) at row_here.0

        pub row-passes : b ≡ true → {c : ℕ} → c ≡ next_sibling t.loads k
            → (row_runs t ρ c (step_in steps k).next ≡ row_runs t ρ k g) × (0 < (step_in steps k).next)
        row-passes on later =
            let e = ap (λ s. s.next) step-here in
            (rw (later, e) (rw (← branch, on) at row_here.0), omega (arith, e, row_here.1))
