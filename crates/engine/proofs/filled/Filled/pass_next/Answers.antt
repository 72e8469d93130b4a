-- `pass_next` meets its contract: what is read is in range; where the cells are complete the row of the next load is known, so it is passed as the
-- definitions choose. Assumes nothing.
use Prim.Native.Nat.{ℕ, suc, ◌+◌, ◌-◌, ◌≤◌, ◌<◌, min}
use mathlib.Core.Path.{◌≡◌, sym, ap, ap₂, ◌∙◌, subst}
use mathlib.Core.List.{List}
use Rattle.std.specs.Prelude.{Option, Some}
use native.Mathlib.Nat.{min-eq_left}
use native.Mathlib.Numerals.{add-one}
use native.Mathlib.Omega.{arith}
use Rattle.cells.specs.declared.problem.Problem.{Problem}
use Rattle.cells.specs.declared.problem.Shape.{Shape}
use Rattle.engine.specs.declared.choice.Choice.{Choice}
use Rattle.engine.specs.declared.pass.Pass.{Pass}
use Rattle.engine.specs.Pass.{Complete, load_choice, row_choice, within, entrance_at, entered, passed_load, BranchEntered, Known, Passed}
use Rattle.engine.proofs.Search.{some_same, none-some}
use Rattle.engine.proofs.Passing.{within_same, branch-entered, row-state, row-known, pass_step}
use Rattle.engine.proofs.Reading.{Promised, budget-is, load_is, row_is}
use Rattle.engine.proofs.filled.Filled.pass_next.Goals as goal

-- whatever problem the outline is of
module _ (p : Problem) (sh : Shape) (o w : List ℕ) (all : Complete p sh o w) (n : ℕ) (s : Pass) (h : Passed p n s) (low : 0 < n) (high : n < p.tables.loads.count) where
  abbrev stage : ℕ
  stage = (entrance_at s.rows n).stage

  abbrev left : ℕ
  left = (entrance_at s.rows n).left

  -- what is chosen for the row of load n + 1
  abbrev here : Choice
  here = row_choice p (suc n) stage left

  known : Known p s.rows n
  known = row-known p all.outlined.lawful n s h low high

  entry : BranchEntered p (suc n) here.rule here.label here.share
  entry = branch-entered p all.outlined.lawful n stage left known

  state : (0 < here.label) × (here.label ≤ p.tables.book.states)
  state = row-state p all.outlined.lawful n stage left known

  -- the shape's states are the problem's
  states : sh.states ≡ p.tables.book.states
  states = ap (λ (y : Shape). y.states) all.outlined.shape

  -- and so are its stages
  stages : sh.stages ≡ p.tables.book.stages
  stages = ap (λ (y : Shape). y.stages) all.outlined.shape

  -- what is read is in range, so it is read as it is
  stage-read : within stage sh.stages ≡ Some (stage - 1)
  stage-read = within_same stage sh.stages known.low (omega (arith, known.high, stages))

  row-choice : (g c : ℕ) → Some g ≡ within stage sh.stages → c ≡ min left sh.budget → (d : Option Choice) → Promised sh o w (n + 1) (sh.states + g) c d → d ≡ Some here
  row-choice g c eg ec d q =
      let g' : g ≡ stage - 1 = some_same (eg ∙ stage-read) in
      let c' : c ≡ left = ec ∙ min-eq_left (omega (arith, known.fits, budget-is p sh o w all)) in
      row_is p sh o w all n (sh.states + g) left high known.fits d
      (subst (λ c. Promised sh o w (suc n) (sh.states + g) c d) c' (subst (λ k. Promised sh o w k (sh.states + g) c d) (add-one n) q))
      stage known.low known.high (omega (arith, states)) known.part.possible

  state-read : (r : Choice) → r ≡ here → within r.label sh.states ≡ Some (here.label - 1)
  state-read r e = ap (λ (r : Choice). within r.label sh.states) e ∙ within_same here.label sh.states state.0 (omega (arith, state.1, states))

  load-choice : (r : Choice) → r ≡ here → (x c : ℕ) → Some x ≡ within r.label sh.states → c ≡ min r.share sh.budget → (d : Option Choice)
      → Promised sh o w (n + 1) x c d → d ≡ Some (load_choice p (suc n) here.label here.share)
  load-choice r e x c ex ec d q =
      let u : suc (here.label - 1) ≡ here.label = omega (arith, state.0) in
      let x' : x ≡ here.label - 1 = some_same (ex ∙ state-read r e) in
      let c' : c ≡ here.share = ec ∙ ap (λ (r : Choice). min r.share sh.budget) e ∙ min-eq_left (omega (arith, entry.fits, budget-is p sh o w all)) in
      load_is p sh o w all n (here.label - 1) here.share high entry.fits d
      (subst (λ x. Promised sh o w (suc n) x here.share d) x' (subst (λ c. Promised sh o w (suc n) x c d) c' (subst (λ k. Promised sh o w k x c d) (add-one n) q)))
      (omega (arith, state.0, state.1)) (rw u entry.part.possible)
      ∙ ap (λ q. Some (load_choice p (suc n) q here.share)) u

  -- the pass after load n + 1
  passed : (r d : Choice) → r ≡ here → d ≡ load_choice p (suc n) here.label here.share → (later : Pass) → later ≡ entered s r
      → (t : Pass) → t ≡ passed_load later (n + 1) r.rule r.label d → Passed p (n + 1) t
  passed r d er ed later el t et =
      subst (λ k. Passed p k t) (sym (add-one n))
      (subst (Passed p (suc n)) (sym path) (pass_step p all.outlined.lawful n s h low high))
    where
      after : ℕ → Choice → Choice → Pass → Pass
      after k r d later = passed_load later k r.rule r.label d

      path : t ≡ after (suc n) here (load_choice p (suc n) here.label here.share) (entered s here)
      path =
          et ∙ ap₂ (λ k (x : Pass). after k r d x) (add-one n) (el ∙ ap (entered s) er)
          ∙ ap₂ (λ (r d : Choice). after (suc n) r d (entered s here)) er ed

-- ---- along the code
pub returns-in_err-stage : goal.returns-in_err-stage
returns-in_err-stage c =
    let a = c.args in
    λ p all h low high. absurd (none-some (c.in_err-stage.ensures ∙ stage-read p a.self.now.shape a.self.now.outline.now a.self.now.cells.now all a.n a.s h low high))

pub returns-in_err-r : goal.returns-in_err-r
returns-in_err-r c =
    let a = c.args in
    λ p all h low high.
    absurd (none-some (row-choice p a.self.now.shape a.self.now.outline.now a.self.now.cells.now all a.n a.s h low high _ _ c.in_ok-stage.ensures (cc) _ c.in_err-r.ensures.right))

pub returns-in_err-state : goal.returns-in_err-state
returns-in_err-state c =
    let a = c.args in
    λ p all h low high.
    let er = some_same (row-choice p a.self.now.shape a.self.now.outline.now a.self.now.cells.now all a.n a.s h low high _ _ c.in_ok-stage.ensures (cc) _ c.in_ok-r.ensures.right) in
    absurd (none-some (c.in_err-state.ensures ∙ state-read p a.self.now.shape a.self.now.outline.now a.self.now.cells.now all a.n a.s h low high c.in_ok-r.r er))

pub returns-in_err-c : goal.returns-in_err-c
returns-in_err-c c =
    let a = c.args in
    λ p all h low high.
    let er = some_same (row-choice p a.self.now.shape a.self.now.outline.now a.self.now.cells.now all a.n a.s h low high _ _ c.in_ok-stage.ensures (cc) _ c.in_ok-r.ensures.right) in
    absurd (none-some (load-choice p a.self.now.shape a.self.now.outline.now a.self.now.cells.now all a.n a.s h low high c.in_ok-r.r er _ _ c.in_ok-state.ensures c.min-share.ensures _ c.in_err-c.ensures.right))

pub returns : goal.returns
returns c =
    let a = c.args in
    λ p all h low high.
    let er = some_same (row-choice p a.self.now.shape a.self.now.outline.now a.self.now.cells.now all a.n a.s h low high _ _ c.in_ok-stage.ensures (cc) _ c.in_ok-r.ensures.right) in
    let el = some_same (load-choice p a.self.now.shape a.self.now.outline.now a.self.now.cells.now all a.n a.s h low high c.in_ok-r.r er _ _ c.in_ok-state.ensures c.min-share.ensures _ c.in_ok-c.ensures.right) in
    passed p a.self.now.shape a.self.now.outline.now a.self.now.cells.now all a.n a.s h low high _ _ er el _ c.entering-later.ensures _ c.with.ensures
