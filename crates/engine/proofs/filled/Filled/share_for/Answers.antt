-- `share_for` meets its contract, for both sorts of rule. Assumes nothing.
use Prim.Native.Nat.{ℕ, ◌-◌, ◌≤◌, ◌<◌}
use mathlib.Core.Path.{◌≡◌, refl, sym, ap, ◌∙◌, subst}
use mathlib.Core.Bool.{Bool, true, false}
use mathlib.Core.List.{List}
use Rattle.std.specs.Prelude.{Option, None, Some}
use native.Mathlib.Omega.{arith}
use Rattle.meaning.specs.Cell.{◌⊕◌, draw, score}
use Rattle.cells.specs.declared.problem.Shape.{Shape}
use Rattle.cells.specs.declared.outline.Lead.{Lead}
use Rattle.cells.specs.declared.outline.Joint.{Joint}
use Rattle.cells.specs.Problem.{serves_if, item_of}
use Rattle.cells.specs.Work.{held_row}
use Rattle.cells.specs.Stretch.{leading, reach_if}
use Rattle.cells.proofs.Served.{unserved, ruled}
use Rattle.cells.proofs.Strips.{moved_at, moved_none}
use Rattle.engine.specs.Search.{split_at, share_if, Reaches}
use Rattle.engine.proofs.Search.{first-reaches, first-within}
use Rattle.engine.proofs.filled.Filled.share_for.Goals as goal

-- what is asked for, by the sort of the rule
abbrev Asked : Shape → List ℕ → Joint → Lead → (c goal : ℕ) → Option ℕ → Bool → Type 0
Asked sh w t x c goal r b =
    0 < goal → reach_if b sh w t c (leading x) ≤ goal → Reaches (reach_if b sh w t c (leading x)) (share_if b sh w t c (leading x)) goal r

pub first_share-requires : goal.first_share-requires
first_share-requires c =
    let r = c.requires.joint.1 in
    let q = r.state c.if-t.true in
    record { joint = c.requires.joint.0; label_nonzero = (q.0, q.1, r.low, r.high, c.requires.c_le_budget) }

pub returns-then-t-clause-right : goal.returns-then-t-clause-right
returns-then-t-clause-right c =
    let s = c.args in
    let sh = s.self.now.shape in
    let w = s.self.now.cells.now in
    subst (Asked sh w s.t s.lead s.c s.goal c.first_share.result) (sym c.if-t.true)
    (first-reaches (split_at sh w s.t s.c (leading s.lead)) s.goal s.c _ c.first_share.ensures)

pub returns-then-t-clause-bound : goal.returns-then-t-clause-bound
returns-then-t-clause-bound c = first-within _ c.args.goal c.args.c _ c.first_share.ensures

pub returns-then-not-serves-clause-right : goal.returns-then-not-serves-clause-right
returns-then-not-serves-clause-right c =
    let s = c.args in
    let sh = s.self.now.shape in
    let w = s.self.now.cells.now in
    subst (Asked sh w s.t s.lead s.c s.goal None) (sym c.if-t.false)
    (λ pos le e. absurd (omega (arith, unserved s.t.item (leading s.lead) (held_row sh w s.t.rest) _ c.serves.ensures c.if-not-serves.true s.c)))

pub returns-then-c-d-clause-right : goal.returns-then-c-d-clause-right
returns-then-c-d-clause-right c =
    let s = c.args in
    let sh = s.self.now.shape in
    let w = s.self.now.cells.now in
    let row = held_row sh w s.t.rest in
    subst (Asked sh w s.t s.lead s.c s.goal None) (sym c.if-t.false)
    (λ pos le e. absurd (omega (
      arith,
      ruled s.t.item (leading s.lead) row _ c.serves.ensures c.if-not-serves.false _ _ c.draw_of-d.ensures refl s.c,
      moved_none c.draw_of-d.result (score (item_of s.t.item) s.lead.label) (row s.lead.stage) s.c c.if-c-d.true,
    )))

-- the rule reaches the load's cell joined with the row's
joined : (sh : Shape) (w : List ℕ) (t : Joint) (x : Lead) (c : ℕ) (b : Bool) → b ≡ serves_if t.item.kind t.item.mark x.kind x.label → b ≡ true
    → (d own row j : ℕ) → d ≡ draw (item_of t.item) x.label → d ≤ c → own ≡ score (item_of t.item) x.label
    → row ≡ held_row sh w t.rest x.stage (c - d) → j ≡ own ⊕ row → j ≡ reach_if false sh w t c (leading x)
joined sh w t x c b eb on d own row j ed l eo er ej =
    ej ∙ ap (λ y. own ⊕ y) er ∙ sym (moved_at d own (held_row sh w t.rest x.stage) c l)
    ∙ ruled t.item (leading x) (held_row sh w t.rest) b eb on d own ed eo c

pub returns-then-join-goal-clause-right : goal.returns-then-join-goal-clause-right
returns-then-join-goal-clause-right c =
    let s = c.args in
    let sh = s.self.now.shape in
    let w = s.self.now.cells.now in
    subst (Asked sh w s.t s.lead s.c s.goal (Some c.draw_of-d.result)) (sym c.if-t.false)
    (λ pos le. (
      sym (joined sh w s.t s.lead s.c _ c.serves.ensures c.if-not-serves.false _ _ _ _ c.draw_of-d.ensures (omega arith) c.own_of-own.ensures.0 c.row_at-row.ensures.0 c.join.ensures) ∙ c.if-join-goal.true,
      c.draw_of-d.ensures,
    ))

pub returns-else-join-goal-clause-right : goal.returns-else-join-goal-clause-right
returns-else-join-goal-clause-right c =
    let s = c.args in
    let sh = s.self.now.shape in
    let w = s.self.now.cells.now in
    subst (Asked sh w s.t s.lead s.c s.goal None) (sym c.if-t.false)
    (λ pos le e. c.if-join-goal.false (joined sh w s.t s.lead s.c _ c.serves.ensures c.if-not-serves.false _ _ _ _ c.draw_of-d.ensures (omega arith) c.own_of-own.ensures.0 c.row_at-row.ensures.0 c.join.ensures ∙ e))
