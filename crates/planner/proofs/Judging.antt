-- What the judge answers of a planner, by its limits. Assumes nothing.
use mathlib.Core.Path.{◌≡◌, refl, sym, ◌∙◌}
use mathlib.Core.Bool.{Bool, true, false, ◌&&◌}
use mathlib.Core.List.{List}
use mathlib.Core.Logic.{◌↔◌}
use Prim.Native.Nat.{ℕ}
use native.Mathlib.Omega.{arith}
use lib.Dec.{leb}
use Rattle.lists.proofs.Bools.{and_left}
use Rattle.std.specs.Prelude.{Result, Err}
use Rattle.tables.specs.declared.refusal.Refusal.{Refusal}
use Rattle.tables.specs.declared.refusal.Refusal.TheVariants.{Unusable}
use Rattle.tables.specs.Stored.{tables_of, keeps_limits}
use Rattle.meaning.specs.Cells.{cells_of}
use Rattle.judge.specs.Verdict.{judged}
use Rattle.judge.specs.Claims.{CaseOf}
use Rattle.judge.proofs.Answers.{answers-exactly}
use Rattle.runs.specs.Outcome.{held_range, keeps_outcome}
use Rattle.calls.specs.State.{StoredState, keeps}
use Rattle.calls.proofs.Work.{clash}
use Rattle.planner.specs.Verdict.{judged_by, JudgesExactly}

module _ (p : StoredState) (ns : List ℕ) where
  -- ---- each answer is given exactly in its case
  pub kept_by : keeps p ≡ true → judged_by p ns ≡ judged p.tables ns
  unfolding judged_by
  kept_by e = rw e

  pub broken-by : keeps p ≡ false → judged_by p ns ≡ Err Unusable
  unfolding judged_by
  broken-by e = rw e

  tables-kept : keeps p ≡ true → keeps_limits p.tables ≡ true
  tables-kept e =
      let l = keeps_limits p.tables in
      let o = keeps_outcome (held_range p.tables) p.outcome in
      and_left l o (and_left (l && o) (leb p.filled (cells_of (tables_of p.tables))) e)

  -- a refusal for a broken limit exactly where one is broken
  limit : (b : Bool) → keeps p ≡ b → (judged_by p ns ≡ Err Unusable) ↔ (keeps p ≡ false)
  limit false e = (λ _. e, λ _. broken-by e)
  limit true e = (
    λ q. absurd (clash (sym (tables-kept e) ∙ (answers-exactly p.tables ns (Err Unusable)).0 (sym (kept_by e) ∙ q))),
    λ q. absurd (clash (sym e ∙ q)),
  )

  -- and every other answer where all are kept, in its case of the tables
  other : (v : Result Bool Refusal) → (Err Unusable ≡ v → ⊥) → (b : Bool) → keeps p ≡ b → (judged_by p ns ≡ v) ↔ ((keeps p ≡ true) × CaseOf p.tables ns v)
  other v d false e = (λ q. absurd (d (sym (broken-by e) ∙ q)), λ q. absurd (clash (sym q.0 ∙ e)))
  other v d true e = (λ q. (e, (answers-exactly p.tables ns v).0 (sym (kept_by e) ∙ q)), λ q. kept_by e ∙ (answers-exactly p.tables ns v).1 q.1)

unlike : {A : Type 0} → ◌≡◌ {A = ℕ} 0 1 → A
unlike z = absurd (omega arith)

pub judges-exactly : JudgesExactly
judges-exactly p ns (Err Unusable) = limit p ns (keeps p) refl
judges-exactly p ns v = other p ns v (λ e. unlike (cc)) (keeps p) refl
