-- `by_rule` meets its contract, for both sorts of rule. Assumes nothing.
use Prim.Native.Nat.{ℕ}
use mathlib.Core.Path.{◌≡◌, sym, ap, ◌∙◌}
use mathlib.Core.Bool.{Bool, true, false}
use mathlib.Core.List.{List}
use Rattle.meaning.specs.Best.{load_reach, row_reach}
use Rattle.cells.specs.declared.problem.Shape.{Shape}
use Rattle.cells.specs.declared.outline.Lead.{Lead}
use Rattle.cells.specs.declared.outline.Joint.{Joint}
use Rattle.cells.specs.Problem.{item_of}
use Rattle.cells.specs.Work.{held_branch, held_row}
use Rattle.cells.specs.Stretch.{leading, reach_if, reach_of}
use Rattle.cells.proofs.Strips.{raised-none, raised-agree}
use Rattle.cells.proofs.Served.{unserved, ruled}
use Rattle.cells.proofs.stretch.Search.by_rule.Goals as goal

module _ (sh : Shape) (w : List ℕ) (t : Joint) (x : Lead) (a : ℕ) where
  of_row : t.branch ≡ true → row_reach (held_branch sh w t.load) (held_row sh w t.rest) a (leading x) ≡ reach_of sh w t a (leading x)
  of_row e = ap (λ (b : Bool). reach_if b sh w t a (leading x)) (sym e)

  of-load : t.branch ≡ false → load_reach (item_of t.item) (held_row sh w t.rest) a (leading x) ≡ reach_of sh w t a (leading x)
  of-load e = ap (λ (b : Bool). reach_if b sh w t a (leading x)) (sym e)

pub raise_split-requires : goal.raise_split-requires
raise_split-requires c =
    let j = c.requires.fits.0 in
    let r = c.requires.fits.1 in
    let q = r.state c.if-t.true in
    record {
      k_nonzero = (j.low, j.high, j.rest, c.requires.to_bound);
      q_nonzero = (q.0, q.1, r.low, r.high);
    }

pub returns-then-t : goal.returns-then-t
returns-then-t c =
    let e = c.if-t.true in
    let r = c.requires.fits.1 in
    let q = r.state e in
    λ h. raised-agree (c.raise_split.ensures ((h e).branches c.args.lead.label q.0 q.1) ((h e).rows c.args.lead.stage r.low r.high)) _
    (λ a l m. of_row c.args.self.now.shape c.args.self.now.work.now c.args.t c.args.lead a e)

pub own_of-own-requires : goal.own_of-own-requires
own_of-own-requires c =
    let j = c.requires.fits.0 in
    (j.power, j.worth)

pub lift_row-requires : goal.lift_row-requires
lift_row-requires c =
    let r = c.requires.fits.1 in
    (c.requires.fits.0.rest, r.low, r.high, c.requires.to_bound, c.own_of-own.ensures.1)

pub returns-then-serves : goal.returns-then-serves
returns-then-serves c =
    let e = c.if-t.false in
    let s = c.args in
    λ h. raised-agree c.lift_row.ensures _
    (λ a l m. ruled s.t.item (leading s.lead) (held_row s.self.now.shape s.self.now.work.now s.t.rest) _ c.serves.ensures c.if-serves.true _ _
    c.draw_of-shift.ensures c.own_of-own.ensures.0 a
    ∙ of-load s.self.now.shape s.self.now.work.now s.t s.lead a e)

pub returns-else-serves : goal.returns-else-serves
returns-else-serves c =
    let e = c.if-t.false in
    let s = c.args in
    λ h. raised-none _ _ _ _
    (λ a l m. sym (of-load s.self.now.shape s.self.now.work.now s.t s.lead a e)
    ∙ unserved s.t.item (leading s.lead) (held_row s.self.now.shape s.self.now.work.now s.t.rest) _ c.serves.ensures c.if-serves.false a)
