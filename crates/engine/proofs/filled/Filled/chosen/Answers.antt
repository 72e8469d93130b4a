-- `chosen` meets its contract: the rules below the next one do not reach the goal, and what follows is the joint's. Assumes nothing.
use mathlib.Core.Path.{sym, ap, ◌∙◌}
use native.Mathlib.Omega.{arith}
use Rattle.std.specs.Prelude.{Some}
use Rattle.lists.proofs.Argmax.{argmax-found}
use Rattle.cells.specs.Stretch.{reach_of}
use Rattle.cells.proofs.Rules.{term, next-met}
use Rattle.engine.proofs.Choosing.{chosen_is, pass, miss, by-rule, no_more}
use Rattle.engine.proofs.filled.Filled.chosen.Goals as goal

-- the share is within the allowance
pub overflow_sub-result : goal.overflow_sub-result
overflow_sub-result c = rw c.in-Some-share_for.is at c.share_for.ensures.bound

pub returns-in-Some-share_for-clause-right : goal.returns-in-Some-share_for-clause-right
returns-in-Some-share_for-clause-right c =
    let s = c.args in
    let sh = s.self.now.shape in
    let o = s.self.now.outline.now in
    let w = s.self.now.cells.now in
    let j = c.in-Some.j in
    let e = c.loop-next.invariant in
    let m = rw c.in-Some.is at e.met in
    λ q pos.
    let h = no_more sh o w s.t s.r s.c s.goal j _ m.0 m.1 c.lead_of-lead.ensures q in
    let k = rw c.in-Some-share_for.is at (c.share_for.ensures.right pos h) in
    let u = by-rule sh o w s.t s.r s.c s.goal j _ m.0 m.1 c.lead_of-lead.ensures in
    let missed = rw c.in-Some.is at (e.missed q pos) in
    ap Some (chosen_is sh o w s.t s.r s.c j m.0 (omega (arith, q, pos)) (sym u ∙ k.0 ∙ q) (λ i b z. missed i b (z ∙ sym q)) _ _ c.lead_of-lead.ensures k.1)

pub loop-next-preserved : goal.loop-next-preserved
loop-next-preserved c =
    let s = c.args in
    let sh = s.self.now.shape in
    let o = s.self.now.outline.now in
    let w = s.self.now.cells.now in
    let j = c.in-Some.j in
    let e = c.loop-next.invariant in
    let m = rw c.in-Some.is at e.met in
    let n = c.next_rule-next-in-Some.ensures in record {
      met = next-met o s.r _ _ n;
      missed = pass sh o w s.t s.r s.c s.goal _ _ (omega (arith, m.0))
          (miss sh o w s.t s.r s.c s.goal j (rw c.in-Some.is at e.missed)
          (λ q pos z.
          let h = no_more sh o w s.t s.r s.c s.goal j _ m.0 m.1 c.lead_of-lead.ensures q in
          let u = by-rule sh o w s.t s.r s.c s.goal j _ m.0 m.1 c.lead_of-lead.ensures in
          (rw c.in_default-share_for.is at (c.share_for.ensures.right pos h)) (u ∙ z)))
          n;
    }

pub returns-clause-right : goal.returns-clause-right
returns-clause-right c =
    let s = c.args in
    let sh = s.self.now.shape in
    let o = s.self.now.outline.now in
    let w = s.self.now.cells.now in
    let missed = rw c.in_default.is at c.loop-next.invariant.missed in
    λ q pos.
    let f = argmax-found (term o s.r (reach_of sh w s.t s.c)) s.r.count (omega (arith, q, pos)) in
    absurd (missed q pos _ f.0 (f.1 ∙ sym q))
